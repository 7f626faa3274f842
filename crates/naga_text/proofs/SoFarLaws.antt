-- One line more, after those that were read.
use Rattle.std.proofs.Common.{◌≡◌, ℕ, ◌<◌, ◌≤◌, Bool, true, false, List, [], ◌∷◌, ◌++◌, Option, None, Some, Contains, filter_map, length, length-append, refl, sym, ap, ◌∙◌, subst, arith, slice_get, nat_eq, eq-eqb, true≢false}
use Rattle.std.specs.Bool.{MatchBool}
use Rattle.std.proofs.lemmas.Option.{slice_get-get_or}
use borrow.Author.Tests.{eqb-true}
use Rattle.naga_arena.specs.Numbers.{largest_u32}
use Rattle.naga_flags.specs.declared.flags.Capabilities.{Capabilities as CapabilitySet}
use Rattle.naga_flags.specs.declared.flags.ValidationFlags.{ValidationFlags}
use Rattle.naga_ir.specs.OnlyTypes.{HasOnlyTypes}
use Rattle.naga_ir.specs.declared.expression.Expression.{Expression as ExpressionType}
use Rattle.naga_ir.specs.declared.ir.Constant.{Constant as ConstantType}
use Rattle.naga_ir.specs.declared.ir.Module.{Module}
use Rattle.naga_ir.specs.declared.ir.Override.{Override as OverrideType}
use Rattle.naga_ir.specs.Distinct.{AllDistinct}
use Rattle.naga_ir.specs.declared.types.«Type».{«Type»}
use Rattle.naga_ir.specs.declared.types.TypeInner.{TypeInner}
use Rattle.naga_text.specs.Text.{AreConsistent, capabilities_in, comment_in, constant_in, expression_in, first_in, flags_in, module_of, override_in, resolved_in, type_in}
use Rattle.naga_text.specs.steps.SoFar.{CanAdd, IsAdded, IsNewItem, IsNewType, IsSetOnce, ReadSoFar, so_far}
use Rattle.naga_text.specs.declared.line.FixedLine.TheVariants.{Flags, Capabilities, Resolved, Constant, Override, Doc}
use Rattle.naga_text.specs.declared.line.Line.{Line}
use Rattle.naga_text.specs.declared.line.Line.TheVariants.{Type_, Expression, Fixed}
use Rattle.naga_text.specs.declared.text.ContentsSoFar.{ContentsSoFar}
use Rattle.naga_ir.proofs.ListLaws.{distinct_once, distinct_push, pick_front, pick_more, pick_too_many, with_option}
use Rattle.naga_text.proofs.ModuleLaws.{module_is}

-- contents are what lines say if each of them is
so_far_is : (c : ContentsSoFar) (said : List Line) → c.«module» ≡ module_of said → c.flags ≡ first_in flags_in said → c.capabilities ≡ first_in capabilities_in said → c.resolved ≡ first_in resolved_in said → c ≡ so_far said
so_far_is c said m f p r = λ j. record { «module» = m j; flags = f j; capabilities = p j; resolved = r j }

-- an empty module and no settings are what no lines say
pub nothing_read : (c : ContentsSoFar) → HasOnlyTypes c.«module» → c.«module».types ≡ [] → c.flags ≡ None → c.capabilities ≡ None → c.resolved ≡ None → ReadSoFar [] c
nothing_read c only none f p r = record {
  said = [];
  forms = tt;
  consistent = record {
    flags = omega arith;
    capabilities = omega arith;
    resolved = omega arith;
    types = λ i j x h k. cc;
    room_for_types = omega arith;
    room_for_expressions = omega arith;
    room_for_constants = omega arith;
    room_for_overrides = omega arith;
  };
  contents_are = so_far_is c [] (module_is c.«module» none only) f p r;
}

-- a module, and what one line more describes
abbrev module_with : Module → Line → Module
module_with m line = record m {
  types = with_option m.types (type_in line);
  constants = with_option m.constants (constant_in line);
  overrides = with_option m.overrides (override_in line);
  global_expressions = with_option m.global_expressions (expression_in line);
  doc_comments = record (m.doc_comments) { struct_members = with_option m.doc_comments.struct_members (comment_in line) };
}

module_more : (said : List Line) (line : Line) → module_with (module_of said) line ≡ module_of (said ++ line ∷ [])
module_more said line = λ j. record (module_of said) {
  types = sym (pick_more type_in said line) j;
  constants = sym (pick_more constant_in said line) j;
  overrides = sym (pick_more override_in said line) j;
  global_expressions = sym (pick_more expression_in said line) j;
  doc_comments = record ((module_of said).doc_comments) { struct_members = sym (pick_more comment_in said line) j };
}

-- the first value of a setting, after one line more
abbrev first_with : {A : Type 0} → (Line → Option A) → List Line → Line → Option A
first_with setting said line = slice_get (with_option (filter_map setting said) (setting line)) 0

first_more : {A : Type 0} (setting : Line → Option A) (said : List Line) (line : Line) → first_with setting said line ≡ first_in setting (said ++ line ∷ [])
first_more setting said line = ap (λ l. slice_get l 0) (sym (pick_more setting said line))

-- contents are what lines and one more say if each of them is
so_far_more : (c : ContentsSoFar) (said : List Line) (line : Line) → c.«module» ≡ module_with (module_of said) line
    → c.flags ≡ first_with flags_in said line → c.capabilities ≡ first_with capabilities_in said line → c.resolved ≡ first_with resolved_in said line → c ≡ so_far (said ++ line ∷ [])
so_far_more c said line m f p r =
    so_far_is c (said ++ line ∷ []) (m ∙ module_more said line) (f ∙ first_more flags_in said line) (p ∙ first_more capabilities_in said line) (r ∙ first_more resolved_in said line)

-- what lines give of a kind, with what one line more gives, is at most what may be
abbrev FitsWith : {A : Type 0} → ℕ → (Line → Option A) → List Line → Line → Type 0
FitsWith most pick said line = length (with_option (filter_map pick said) (pick line)) ≤ most

-- lines are consistent with one more if what they give together is
consistent_more : (said : List Line) (line : Line) → FitsWith 1 flags_in said line → FitsWith 1 capabilities_in said line → FitsWith 1 resolved_in said line
    → AllDistinct (with_option (filter_map type_in said) (type_in line)) → FitsWith largest_u32 type_in said line → FitsWith largest_u32 expression_in said line
    → FitsWith largest_u32 constant_in said line → FitsWith largest_u32 override_in said line → AreConsistent (said ++ line ∷ [])
consistent_more said line f p r t types expressions constants overrides = record {
  flags = few flags_in 1 f;
  capabilities = few capabilities_in 1 p;
  resolved = few resolved_in 1 r;
  types = subst AllDistinct (sym (pick_more type_in said line)) t;
  room_for_types = few type_in largest_u32 types;
  room_for_expressions = few expression_in largest_u32 expressions;
  room_for_constants = few constant_in largest_u32 constants;
  room_for_overrides = few override_in largest_u32 overrides;
}
  where
    few : {A : Type 0} (pick : Line → Option A) (most : ℕ) → FitsWith most pick said line → length (filter_map pick (said ++ line ∷ [])) ≤ most
    few {A} pick most h = subst (λ (l : List A). length l ≤ most) (sym (pick_more pick said line)) h

-- what lines say, in contents that say it
module_said : (c : ContentsSoFar) (said : List Line) → c ≡ so_far said → c.«module» ≡ module_of said
module_said c said e = ap (λ (c : ContentsSoFar). c.«module») e

flags_said : (c : ContentsSoFar) (said : List Line) → c ≡ so_far said → c.flags ≡ first_in flags_in said
flags_said c said e = ap (λ (c : ContentsSoFar). c.flags) e

capabilities_said : (c : ContentsSoFar) (said : List Line) → c ≡ so_far said → c.capabilities ≡ first_in capabilities_in said
capabilities_said c said e = ap (λ (c : ContentsSoFar). c.capabilities) e

resolved_said : (c : ContentsSoFar) (said : List Line) → c ≡ so_far said → c.resolved ≡ first_in resolved_in said
resolved_said c said e = ap (λ (c : ContentsSoFar). c.resolved) e

-- a setting had no value and got this one, so it is the first, or had one
set_cases : {A : Type 0} (P Q : Type 0) (given : List A) (value : A) (old new : Option A) (set : Bool) → IsSetOnce old value new set → old ≡ slice_get given 0
    → (length (given ++ value ∷ []) ≤ 1 → new ≡ slice_get (given ++ value ∷ []) 0 → P) → (1 ≤ length given → Q) → MatchBool set P Q
set_cases P Q [] value old new set h e first again =
    let was = subst (λ o. IsSetOnce o value new set) e h in
    subst (λ b. MatchBool b P Q) (sym was.0) (first (omega arith) was.1)
set_cases P Q (before ∷ rest) value old new set h e first again =
    let was = subst (λ o. IsSetOnce o value new set) e h in
    subst (λ b. MatchBool b P Q) (sym was.0) (again (omega arith))

-- a line of flags adds them, or can't stand here
pub flags_added : (old : ContentsSoFar) (flags : ValidationFlags) (new : Option ValidationFlags) (set : Bool) → IsSetOnce old.flags flags new set → IsAdded old (Fixed (Flags flags)) (record old { flags = new }) set
flags_added old flags new set h said c e = set_cases _ _ (filter_map flags_in said) flags old.flags new set h (flags_said old said e)
    (λ few first. (
      consistent_more said (Fixed (Flags flags)) few c.capabilities c.resolved c.types c.room_for_types c.room_for_expressions c.room_for_constants c.room_for_overrides,
      so_far_more (record old { flags = new }) said (Fixed (Flags flags)) (module_said old said e) first (capabilities_said old said e) (resolved_said old said e),
    ))
    (λ full after whole. pick_too_many flags_in 1 said (Fixed (Flags flags)) after flags refl full whole.flags)

-- a line of capabilities adds them, or can't stand here
pub capabilities_added : (old : ContentsSoFar) (capabilities : CapabilitySet) (new : Option CapabilitySet) (set : Bool) → IsSetOnce old.capabilities capabilities new set → IsAdded old (Fixed (Capabilities capabilities)) (record old { capabilities = new }) set
capabilities_added old capabilities new set h said c e = set_cases _ _ (filter_map capabilities_in said) capabilities old.capabilities new set h (capabilities_said old said e)
    (λ few first. (
      consistent_more said (Fixed (Capabilities capabilities)) c.flags few c.resolved c.types c.room_for_types c.room_for_expressions c.room_for_constants c.room_for_overrides,
      so_far_more (record old { capabilities = new }) said (Fixed (Capabilities capabilities)) (module_said old said e) (flags_said old said e) first (resolved_said old said e),
    ))
    (λ full after whole. pick_too_many capabilities_in 1 said (Fixed (Capabilities capabilities)) after capabilities refl full whole.capabilities)

-- a line `resolved` adds that, or can't stand here
pub resolved_added : (old : ContentsSoFar) (new : Option Bool) (set : Bool) → IsSetOnce old.resolved true new set → IsAdded old (Fixed Resolved) (record old { resolved = new }) set
resolved_added old new set h said c e = set_cases _ _ (filter_map resolved_in said) true old.resolved new set h (resolved_said old said e)
    (λ few first. (
      consistent_more said (Fixed Resolved) c.flags c.capabilities few c.types c.room_for_types c.room_for_expressions c.room_for_constants c.room_for_overrides,
      so_far_more (record old { resolved = new }) said (Fixed Resolved) (module_said old said e) (flags_said old said e) (capabilities_said old said e) first,
    ))
    (λ full after whole. pick_too_many resolved_in 1 said (Fixed Resolved) after true refl full whole.resolved)

-- an arena that had room has it for what it holds now
room_after : {A : Type 0} (given old : List A) (item : A) → old ≡ given → length old < largest_u32 → length (given ++ item ∷ []) ≤ largest_u32
room_after {A} given old item e h =
    let room : length given < largest_u32 = subst (λ (l : List A). length l < largest_u32) e h in
    simp length-append (omega (arith, room))

-- a line of a type adds it, or can't stand here
pub type_added : (old : ContentsSoFar) (inner : TypeInner) (new : List «Type») (added : Bool) → IsNewType old.«module».types inner new added → IsAdded old (Type_ inner) (record old { «module» = record old.«module» { types = new } }) added
type_added old inner new true h = λ said c e.
    let t : «Type» = record { name = None; inner = inner } in
    let types : old.«module».types ≡ filter_map type_in said = ap (λ (m : Module). m.types) (module_said old said e) in
    let absent : ¬ (Contains (filter_map type_in said) t) = subst (λ types. ¬ (Contains types t)) types h.1.0 in (
      consistent_more said (Type_ inner) c.flags c.capabilities c.resolved (distinct_push (filter_map type_in said) t c.types absent) (room_after (filter_map type_in said) old.«module».types t types h.1.1)
          c.room_for_expressions c.room_for_constants c.room_for_overrides,
      so_far_more (record old { «module» = record old.«module» { types = new } }) said (Type_ inner)
          (ap (λ types. record old.«module» { types = types }) h.0 ∙ ap (λ (m : Module). record m { types = m.types ++ t ∷ [] }) (module_said old said e))
          (flags_said old said e) (capabilities_said old said e) (resolved_said old said e),
    )
type_added old inner new false h = λ said c e after whole.
    let t : «Type» = record { name = None; inner = inner } in
    let types : filter_map type_in said ≡ old.«module».types = sym (ap (λ (m : Module). m.types) (module_said old said e)) in
    let all : filter_map type_in (said ++ Type_ inner ∷ [] ++ after) ≡ old.«module».types ++ t ∷ filter_map type_in after =
    pick_front type_in said (Type_ inner) after t refl ∙ ap (λ l. l ++ t ∷ filter_map type_in after) types in
    let room : length (old.«module».types ++ t ∷ filter_map type_in after) ≤ largest_u32 = subst (λ (types : List «Type»). length types ≤ largest_u32) all whole.room_for_types in
    h (
      λ present. distinct_once old.«module».types (filter_map type_in after) t present (subst AllDistinct all whole.types),
      omega (arith, simp length-append at room),
    )

-- a line of an expression adds it, or can't stand here
pub expression_added : (old : ContentsSoFar) (x : ExpressionType) (new : List ExpressionType) (added : Bool) → IsNewItem old.«module».global_expressions x new added
    → IsAdded old (Expression x) (record old { «module» = record old.«module» { global_expressions = new } }) added
expression_added old x new true h = λ said c e.
    let given : old.«module».global_expressions ≡ filter_map expression_in said = ap (λ (m : Module). m.global_expressions) (module_said old said e) in (
      consistent_more said (Expression x) c.flags c.capabilities c.resolved c.types c.room_for_types (room_after (filter_map expression_in said) old.«module».global_expressions x given h.1) c.room_for_constants c.room_for_overrides,
      so_far_more (record old { «module» = record old.«module» { global_expressions = new } }) said (Expression x)
          (ap (λ expressions. record old.«module» { global_expressions = expressions }) h.0 ∙ ap (λ (m : Module). record m { global_expressions = m.global_expressions ++ x ∷ [] }) (module_said old said e))
          (flags_said old said e) (capabilities_said old said e) (resolved_said old said e),
    )
expression_added old x new false h = λ said c e after whole.
    let full : largest_u32 ≤ length (filter_map expression_in said) = subst (λ (l : List ExpressionType). largest_u32 ≤ length l) (ap (λ (m : Module). m.global_expressions) (module_said old said e)) h in
    pick_too_many expression_in largest_u32 said (Expression x) after x refl full whole.room_for_expressions

-- a line of a constant adds it, or can't stand here
pub constant_added : (old : ContentsSoFar) (ty init : ℕ) (new : List ConstantType) (added : Bool) → IsNewItem old.«module».constants (record { name = None; ty = ty; init = init }) new added
    → IsAdded old (Fixed (Constant ty init)) (record old { «module» = record old.«module» { constants = new } }) added
constant_added old ty init new true h = λ said c e.
    let item : ConstantType = record { name = None; ty = ty; init = init } in
    let given : old.«module».constants ≡ filter_map constant_in said = ap (λ (m : Module). m.constants) (module_said old said e) in (
      consistent_more said (Fixed (Constant ty init)) c.flags c.capabilities c.resolved c.types c.room_for_types c.room_for_expressions (room_after (filter_map constant_in said) old.«module».constants item given h.1) c.room_for_overrides,
      so_far_more (record old { «module» = record old.«module» { constants = new } }) said (Fixed (Constant ty init))
          (ap (λ constants. record old.«module» { constants = constants }) h.0 ∙ ap (λ (m : Module). record m { constants = m.constants ++ item ∷ [] }) (module_said old said e))
          (flags_said old said e) (capabilities_said old said e) (resolved_said old said e),
    )
constant_added old ty init new false h = λ said c e after whole.
    let item : ConstantType = record { name = None; ty = ty; init = init } in
    let full : largest_u32 ≤ length (filter_map constant_in said) = subst (λ (l : List ConstantType). largest_u32 ≤ length l) (ap (λ (m : Module). m.constants) (module_said old said e)) h in
    pick_too_many constant_in largest_u32 said (Fixed (Constant ty init)) after item refl full whole.room_for_constants

-- a line of an override adds it, or can't stand here
pub override_added : (old : ContentsSoFar) (ty : ℕ) (init id : Option ℕ) (new : List OverrideType) (added : Bool) → IsNewItem old.«module».overrides (record { name = None; id = id; ty = ty; init = init }) new added
    → IsAdded old (Fixed (Override ty init id)) (record old { «module» = record old.«module» { overrides = new } }) added
override_added old ty init id new true h = λ said c e.
    let item : OverrideType = record { name = None; id = id; ty = ty; init = init } in
    let given : old.«module».overrides ≡ filter_map override_in said = ap (λ (m : Module). m.overrides) (module_said old said e) in (
      consistent_more said (Fixed (Override ty init id)) c.flags c.capabilities c.resolved c.types c.room_for_types c.room_for_expressions c.room_for_constants (room_after (filter_map override_in said) old.«module».overrides item given h.1),
      so_far_more (record old { «module» = record old.«module» { overrides = new } }) said (Fixed (Override ty init id))
          (ap (λ overrides. record old.«module» { overrides = overrides }) h.0 ∙ ap (λ (m : Module). record m { overrides = m.overrides ++ item ∷ [] }) (module_said old said e))
          (flags_said old said e) (capabilities_said old said e) (resolved_said old said e),
    )
override_added old ty init id new false h = λ said c e after whole.
    let item : OverrideType = record { name = None; id = id; ty = ty; init = init } in
    let full : largest_u32 ≤ length (filter_map override_in said) = subst (λ (l : List OverrideType). largest_u32 ≤ length l) (ap (λ (m : Module). m.overrides) (module_said old said e)) h in
    pick_too_many override_in largest_u32 said (Fixed (Override ty init id)) after item refl full whole.room_for_overrides

-- a line of a comment adds it
pub comment_added : (old : ContentsSoFar) (ty member : ℕ) (new : List ((ℕ × ℕ) × List (List ℕ))) → new ≡ old.«module».doc_comments.struct_members ++ ((ty, member), []) ∷ []
    → IsAdded old (Fixed (Doc ty member)) (record old { «module» = record old.«module» { doc_comments = record (old.«module».doc_comments) { struct_members = new } } }) true
comment_added old ty member new h = λ said c e. (
  consistent_more said (Fixed (Doc ty member)) c.flags c.capabilities c.resolved c.types c.room_for_types c.room_for_expressions c.room_for_constants c.room_for_overrides,
  so_far_more (record old { «module» = record old.«module» { doc_comments = record (old.«module».doc_comments) { struct_members = new } } }) said (Fixed (Doc ty member))
      (ap (λ comments. record old.«module» { doc_comments = record (old.«module».doc_comments) { struct_members = comments } }) h
      ∙ ap (λ (m : Module). record m { doc_comments = record (m.doc_comments) { struct_members = m.doc_comments.struct_members ++ ((ty, member), []) ∷ [] } }) (module_said old said e))
      (flags_said old said e) (capabilities_said old said e) (resolved_said old said e),
)

-- an arena that gives the handle of a type tells by it whether the type was added
pub type_inserted : (old new : List «Type») (t : «Type») (handle count : ℕ) → count ≡ length old → count < largest_u32
    → ((k : ℕ) → slice_get old k ≡ Some t → handle ≡ k)
    → (¬ (Contains old t) → handle ≡ length old)
    → (¬ (Contains old t) → new ≡ old ++ t ∷ [])
    → MatchBool (nat_eq handle count) ((new ≡ old ++ t ∷ []) × CanAdd old t) (¬ (CanAdd old t))
type_inserted old new t handle count size room present place appended = go (nat_eq handle count) refl
  where
    go : (b : Bool) → nat_eq handle count ≡ b → MatchBool b ((new ≡ old ++ t ∷ []) × CanAdd old t) (¬ (CanAdd old t))
    go true e =
        let absent : ¬ (Contains old t) = λ (found : Contains old t).
        let at = present found.0 (slice_get-get_or old found.0 t found.1 ∙ ap Some found.2) in
        let within : found.0 < length old = found.1 in
        let last : handle ≡ count = eqb-true handle count e in omega arith in
        (appended absent, (absent, omega arith))
    go false e = λ joins. true≢false (sym (eq-eqb handle count (place joins.0 ∙ sym size)) ∙ e)
