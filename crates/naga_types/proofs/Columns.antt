-- Infos by their columns.
use Rattle.std.proofs.Common.{◌≡◌, ◌<◌, ◌≤◌, ◌++◌, ◌∷◌, [], ℕ, zero, suc, List, Some, Result, length, map, min, option_map, slice_get, refl, sym, ap, ◌∙◌, arith}
use Rattle.std.proofs.lemmas.List.{length-map, map-append}
use Rattle.std.proofs.lemmas.Simd.{map-map}
use Rattle.std.specs.List.{zip}
use Rattle.std.proofs.lemmas.Option.{same_Some, slice_get-map}
use Rattle.naga_flags.specs.declared.flags.TypeFlags.{TypeFlags}
use Rattle.naga_flags.specs.declared.width.ImmediateError.{ImmediateError}
use Rattle.naga_arena.specs.WithRoom.{WithRoom}
use Rattle.naga_types.specs.Infos.{AreColumns, Infos, info_of, infos_in}
use Rattle.naga_types.specs.declared.error.Disalignment.{Disalignment}
use Rattle.naga_types.specs.declared.info.TypeInfo.{TypeInfo}

module _ {X Y : Type 0} where
  zip_long : (xs : List X) (ys : List Y) → length ys ≡ length xs → length (zip xs ys) ≡ length xs
  zip_long [] ys h = refl
  zip_long (x ∷ xs) [] h = absurd (omega (arith, h))
  zip_long (x ∷ xs) (y ∷ ys) h = ap suc (zip_long xs ys (omega (arith, h)))

  zip_push : (xs : List X) (ys : List Y) (x : X) (y : Y) → length ys ≡ length xs → zip (xs ++ x ∷ []) (ys ++ y ∷ []) ≡ zip xs ys ++ (x, y) ∷ []
  zip_push [] [] x y h = refl
  zip_push [] (z ∷ ys) x y h = absurd (omega (arith, h))
  zip_push (z ∷ xs) [] x y h = absurd (omega (arith, h))
  zip_push (v ∷ xs) (w ∷ ys) x y h = ap (λ ps. (v, w) ∷ ps) (zip_push xs ys x y (omega (arith, h)))

  zip_get : (xs : List X) (ys : List Y) (k : ℕ) (x : X) (y : Y) → slice_get xs k ≡ Some x → slice_get ys k ≡ Some y → slice_get (zip xs ys) k ≡ Some (x, y)
  zip_get [] ys k x y a b = absurd (cc)
  zip_get (v ∷ xs) [] k x y a b = absurd (cc)
  zip_get (v ∷ xs) (w ∷ ys) zero x y a b = ap Some (ap (λ z. (z, w)) (same_Some v x a) ∙ ap (λ z. (x, z)) (same_Some w y b))
  zip_get (v ∷ xs) (w ∷ ys) (suc k) x y a b = zip_get xs ys k x y a b

  zip_first : (xs : List X) (ys : List Y) → length ys ≡ length xs → map (λ p. p.0) (zip xs ys) ≡ xs
  zip_first [] ys h = refl
  zip_first (x ∷ xs) [] h = absurd (omega (arith, h))
  zip_first (x ∷ xs) (y ∷ ys) h = ap (λ zs. x ∷ zs) (zip_first xs ys (omega (arith, h)))

module _ (flags : List TypeFlags) (uniform storage : List (Result ℕ (ℕ × Disalignment))) (immediates : List (Result (Unit {0}) ImmediateError))
    (same : AreColumns flags uniform storage immediates) where
  last_two : length (zip storage immediates) ≡ length uniform
  last_two = omega (arith, zip_long storage immediates (omega (arith, same.storage_long, same.immediates_long)), same.storage_long, same.uniform_long)

  last_three : length (zip uniform (zip storage immediates)) ≡ length flags
  last_three = omega (arith, zip_long uniform (zip storage immediates) last_two, same.uniform_long)

  pub infos_long : length (infos_in flags uniform storage immediates) ≡ length flags
  unfolding infos_in
  infos_long = length-map (zip flags (zip uniform (zip storage immediates))) info_of ∙ zip_long flags (zip uniform (zip storage immediates)) last_three

  pub infos_push : (info : TypeInfo) → infos_in (flags ++ info.flags ∷ []) (uniform ++ info.uniform_layout ∷ []) (storage ++ info.storage_layout ∷ []) (immediates ++ info.immediates_compatibility ∷ []) ≡ infos_in flags uniform storage immediates ++ info ∷ []
  unfolding infos_in
  infos_push info =
      let two = zip_push storage immediates info.storage_layout info.immediates_compatibility (omega (arith, same.storage_long, same.immediates_long)) in
      let three = ap (zip (uniform ++ info.uniform_layout ∷ [])) two ∙ zip_push uniform (zip storage immediates) info.uniform_layout (info.storage_layout, info.immediates_compatibility) last_two in
      let four = ap (zip (flags ++ info.flags ∷ [])) three ∙ zip_push flags (zip uniform (zip storage immediates)) info.flags (info.uniform_layout, (info.storage_layout, info.immediates_compatibility)) last_three in
      ap (map info_of) four ∙ map-append info_of (zip flags (zip uniform (zip storage immediates))) ((info.flags, (info.uniform_layout, (info.storage_layout, info.immediates_compatibility))) ∷ [])

  pub infos_get : (k : ℕ) (info : TypeInfo) → slice_get flags k ≡ Some info.flags → slice_get uniform k ≡ Some info.uniform_layout → slice_get storage k ≡ Some info.storage_layout → slice_get immediates k ≡ Some info.immediates_compatibility
      → slice_get (infos_in flags uniform storage immediates) k ≡ Some info
  unfolding infos_in
  infos_get k info f u s i =
      let two = zip_get storage immediates k info.storage_layout info.immediates_compatibility s i in
      let three = zip_get uniform (zip storage immediates) k info.uniform_layout (info.storage_layout, info.immediates_compatibility) u two in
      let four = zip_get flags (zip uniform (zip storage immediates)) k info.flags (info.uniform_layout, (info.storage_layout, info.immediates_compatibility)) f three in
      slice_get-map info_of (zip flags (zip uniform (zip storage immediates))) k ∙ ap (option_map info_of) four

  pub infos_flags : map (λ (info : TypeInfo). info.flags) (infos_in flags uniform storage immediates) ≡ flags
  unfolding infos_in
  infos_flags = map-map (λ (info : TypeInfo). info.flags) info_of (zip flags (zip uniform (zip storage immediates))) ∙ zip_first flags (zip uniform (zip storage immediates)) last_three

-- what infos say of one of their columns: it is as long, and has at least their room
pub record Seen {A : Type 0} (infos : Infos) (column : WithRoom A) : Type 0 where
  pub long : length column.items ≡ length infos.infos
  pub room : infos.room ≤ column.room

-- what infos say of all their columns: each is as long, and has at least their room
pub record ColumnsSeen (infos : Infos) (flags : WithRoom TypeFlags) (uniform storage : WithRoom (Result ℕ (ℕ × Disalignment))) (immediates : WithRoom (Result (Unit {0}) ImmediateError)) : Type 0 where
  pub flags_seen : Seen infos flags
  pub uniform_seen : Seen infos uniform
  pub storage_seen : Seen infos storage
  pub immediates_seen : Seen infos immediates

pub columns_seen : (flags : WithRoom TypeFlags) (uniform storage : WithRoom (Result ℕ (ℕ × Disalignment))) (immediates : WithRoom (Result (Unit {0}) ImmediateError)) (infos : Infos)
    → AreColumns flags.items uniform.items storage.items immediates.items
    → record { infos = infos_in flags.items uniform.items storage.items immediates.items; room = min (min flags.room uniform.room) (min storage.room immediates.room) } ≡ infos
    → ColumnsSeen infos flags uniform storage immediates
columns_seen flags uniform storage immediates infos same is =
    let long = ap (λ (n : Infos). length n.infos) (sym is) ∙ infos_long flags.items uniform.items storage.items immediates.items same in
    let room = ap (λ (n : Infos). n.room) is in
    record {
      flags_seen = record { long = sym long; room = omega (arith, room) };
      uniform_seen = record { long = same.uniform_long ∙ sym long; room = omega (arith, room) };
      storage_seen = record { long = same.storage_long ∙ sym long; room = omega (arith, room) };
      immediates_seen = record { long = same.immediates_long ∙ sym long; room = omega (arith, room) };
    }

pub column_has_room : {A : Type 0} (infos : Infos) (column : WithRoom A) → Seen infos column → length infos.infos < infos.room → length column.items < column.room
column_has_room infos column seen l = omega (arith, seen.long, seen.room, l)
