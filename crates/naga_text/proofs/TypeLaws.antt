-- The reader of a type's words returns the one type with these words.
use Rattle.std.proofs.Common.{◌≡◌, ℕ, List, [], ◌∷◌, Some, refl, subst, codes}
use Rattle.std.proofs.lemmas.Option.{option_and_then_some, same_Some}
use Rattle.std.specs.List.{AllByRecursion}
use Rattle.naga_arena.specs.Numbers.{largest_u8}
use Rattle.naga_ir.specs.declared.types.Scalar.{Scalar as ScalarType}
use Rattle.naga_ir.specs.declared.types.TypeInner.{TypeInner}
use Rattle.naga_ir.specs.declared.types.TypeInner.TheVariants.{Scalar, Vector, Matrix, CooperativeMatrix, Atomic, Pointer, ValuePointer, Array, Struct, Image, Sampler, AccelerationStructure, RayQuery, BindingArray}
use Rattle.naga_text.specs.Words.{handle_of, number_of, number_up_to}
use Rattle.naga_text.specs.Forms.{Matches, member_part, type_form}
use Rattle.naga_text.specs.Tables.{bools, chosen, classes, dimensions, kinds, roles, spaces}
use Rattle.naga_text.specs.WordForms.{Reader, array_size_of, cooperative_size_of, member_of, pointed_size_of, read_each, size_of}
use Rattle.naga_text.specs.steps.LineForms.{acceleration_structure_of, array_of, atomic_of, binding_array_of, cooperative_matrix_of, image_of, matrix_of, pointer_of, ray_query_of, sampler_of, scalar_of, scalar_type_of, struct_of, type_of, type_readers, value_pointer_of, vector_of}
use Rattle.naga_text.proofs.EachLaws.{each_again, each_found}
use Rattle.naga_text.proofs.MemberLaws.{member_again, member_found}
use Rattle.naga_text.proofs.PartLaws.{by_parts}
use Rattle.naga_text.proofs.TableLaws.{chosen_holds}
use Rattle.naga_text.proofs.WordLaws.{array_size_again, array_size_found, cooperative_size_again, cooperative_size_found, pointed_size_again, pointed_size_found, size_again, size_found}

-- a scalar is read of its kind's word and its width, and of each such two words
scalar_found : (k w : List ℕ) (s : ScalarType) → scalar_of k w ≡ Some s → (chosen kinds k ≡ Some s.kind) × (number_up_to largest_u8 w ≡ Some s.width)
scalar_found k w s h =
    option_and_then_some _ (chosen kinds k) s h λ kind e h.
    option_and_then_some _ (number_up_to largest_u8 w) s h λ width f h.
    subst (λ (s : ScalarType). (chosen kinds k ≡ Some s.kind) × (number_up_to largest_u8 w ≡ Some s.width)) (same_Some (record { kind = kind; width = width }) s h) (e, f)

scalar_again : (k w : List ℕ) (s : ScalarType) → chosen kinds k ≡ Some s.kind → number_up_to largest_u8 w ≡ Some s.width → scalar_of k w ≡ Some s
scalar_again k w s e f = rw (e, f) refl

-- what a reader reads of the words after a keyword has its type's form
abbrev HasForm : List ℕ → Reader TypeInner → Type 0
HasForm keyword reader = (ws : List (List ℕ)) (t : TypeInner) → reader ws ≡ Some t → Matches (type_form t) (keyword ∷ ws)

scalar_type_found : HasForm (codes "scalar") scalar_type_of
scalar_type_found (k ∷ w ∷ []) t h =
    option_and_then_some _ (scalar_of k w) t h λ scalar e h.
    let s = scalar_found k w scalar e in
    subst (λ t. Matches (type_form t) (codes "scalar" ∷ k ∷ w ∷ [])) (same_Some (Scalar scalar) t h) (refl, (s.0, (s.1, tt)))
scalar_type_found _ t h = cc

vector_found : HasForm (codes "vector") vector_of
vector_found (n ∷ k ∷ w ∷ []) t h =
    option_and_then_some _ (size_of n) t h λ size e h.
    option_and_then_some _ (scalar_of k w) t h λ scalar f h.
    let s = scalar_found k w scalar f in
    subst (λ t. Matches (type_form t) (codes "vector" ∷ n ∷ k ∷ w ∷ [])) (same_Some (Vector size scalar) t h) (refl, (size_found n size e, (s.0, (s.1, tt))))
vector_found _ t h = cc

matrix_found : HasForm (codes "matrix") matrix_of
matrix_found (m ∷ n ∷ k ∷ w ∷ []) t h =
    option_and_then_some _ (size_of m) t h λ columns e h.
    option_and_then_some _ (size_of n) t h λ rows f h.
    option_and_then_some _ (scalar_of k w) t h λ scalar g h.
    let s = scalar_found k w scalar g in
    subst (λ t. Matches (type_form t) (codes "matrix" ∷ m ∷ n ∷ k ∷ w ∷ [])) (same_Some (Matrix columns rows scalar) t h) (refl, (size_found m columns e, (size_found n rows f, (s.0, (s.1, tt)))))
matrix_found _ t h = cc

cooperative_matrix_found : HasForm (codes "coop") cooperative_matrix_of
cooperative_matrix_found (m ∷ n ∷ k ∷ w ∷ r ∷ []) t h =
    option_and_then_some _ (cooperative_size_of m) t h λ columns e h.
    option_and_then_some _ (cooperative_size_of n) t h λ rows f h.
    option_and_then_some _ (scalar_of k w) t h λ scalar g h.
    option_and_then_some _ (chosen roles r) t h λ role i h.
    let s = scalar_found k w scalar g in
    subst (λ t. Matches (type_form t) (codes "coop" ∷ m ∷ n ∷ k ∷ w ∷ r ∷ [])) (same_Some (CooperativeMatrix columns rows scalar role) t h) (refl, (cooperative_size_found m columns e, (cooperative_size_found n rows f, (s.0, (s.1, (i, tt))))))
cooperative_matrix_found _ t h = cc

atomic_found : HasForm (codes "atomic") atomic_of
atomic_found (k ∷ w ∷ []) t h =
    option_and_then_some _ (scalar_of k w) t h λ scalar e h.
    let s = scalar_found k w scalar e in
    subst (λ t. Matches (type_form t) (codes "atomic" ∷ k ∷ w ∷ [])) (same_Some (Atomic scalar) t h) (refl, (s.0, (s.1, tt)))
atomic_found _ t h = cc

pointer_found : HasForm (codes "pointer") pointer_of
pointer_found (b ∷ s ∷ []) t h =
    option_and_then_some _ (handle_of b) t h λ base e h.
    option_and_then_some _ (chosen spaces s) t h λ space f h.
    subst (λ t. Matches (type_form t) (codes "pointer" ∷ b ∷ s ∷ [])) (same_Some (Pointer base space) t h) (refl, (e, (f, tt)))
pointer_found _ t h = cc

value_pointer_found : HasForm (codes "valuepointer") value_pointer_of
value_pointer_found (n ∷ k ∷ w ∷ p ∷ []) t h =
    option_and_then_some _ (pointed_size_of n) t h λ size e h.
    option_and_then_some _ (scalar_of k w) t h λ scalar f h.
    option_and_then_some _ (chosen spaces p) t h λ space g h.
    let s = scalar_found k w scalar f in
    subst (λ t. Matches (type_form t) (codes "valuepointer" ∷ n ∷ k ∷ w ∷ p ∷ [])) (same_Some (ValuePointer size scalar space) t h) (refl, (pointed_size_found n size e, (s.0, (s.1, (g, tt)))))
value_pointer_found _ t h = cc

array_found : HasForm (codes "array") array_of
array_found (b ∷ z ∷ s ∷ []) t h =
    option_and_then_some _ (handle_of b) t h λ base e h.
    option_and_then_some _ (array_size_of z) t h λ size f h.
    option_and_then_some _ (number_of s) t h λ stride g h.
    subst (λ t. Matches (type_form t) (codes "array" ∷ b ∷ z ∷ s ∷ [])) (same_Some (Array base size stride) t h) (refl, (e, (array_size_found z size f, (g, tt))))
array_found _ t h = cc

binding_array_found : HasForm (codes "bindingarray") binding_array_of
binding_array_found (b ∷ z ∷ []) t h =
    option_and_then_some _ (handle_of b) t h λ base e h.
    option_and_then_some _ (array_size_of z) t h λ size f h.
    subst (λ t. Matches (type_form t) (codes "bindingarray" ∷ b ∷ z ∷ [])) (same_Some (BindingArray base size) t h) (refl, (e, (array_size_found z size f, tt)))
binding_array_found _ t h = cc

image_found : HasForm (codes "image") image_of
image_found (d ∷ r ∷ x ∷ []) t h =
    option_and_then_some _ (chosen dimensions d) t h λ dim e h.
    option_and_then_some _ (chosen bools r) t h λ arrayed f h.
    option_and_then_some _ (chosen classes x) t h λ class g h.
    subst (λ t. Matches (type_form t) (codes "image" ∷ d ∷ r ∷ x ∷ [])) (same_Some (Image dim arrayed class) t h) (refl, (e, (f, (g, tt))))
image_found _ t h = cc

sampler_found : HasForm (codes "sampler") sampler_of
sampler_found (b ∷ []) t h =
    option_and_then_some _ (chosen bools b) t h λ comparison e h.
    subst (λ t. Matches (type_form t) (codes "sampler" ∷ b ∷ [])) (same_Some (Sampler comparison) t h) (refl, (e, tt))
sampler_found _ t h = cc

acceleration_structure_found : HasForm (codes "accel") acceleration_structure_of
acceleration_structure_found (b ∷ []) t h =
    option_and_then_some _ (chosen bools b) t h λ vertex_return e h.
    subst (λ t. Matches (type_form t) (codes "accel" ∷ b ∷ [])) (same_Some (AccelerationStructure vertex_return) t h) (refl, (e, tt))
acceleration_structure_found _ t h = cc

ray_query_found : HasForm (codes "rayquery") ray_query_of
ray_query_found (b ∷ []) t h =
    option_and_then_some _ (chosen bools b) t h λ vertex_return e h.
    subst (λ t. Matches (type_form t) (codes "rayquery" ∷ b ∷ [])) (same_Some (RayQuery vertex_return) t h) (refl, (e, tt))
ray_query_found _ t h = cc

struct_found : HasForm (codes "struct") struct_of
struct_found [] t h = cc
struct_found (s ∷ ws) t h =
    option_and_then_some _ (number_of s) t h λ span e h.
    option_and_then_some _ (read_each member_of ws) t h λ members f h.
    subst (λ t. Matches (type_form t) (codes "struct" ∷ s ∷ ws)) (same_Some (Struct members span) t h) (refl, (e, each_found member_of member_part member_found ws members f))

-- what is read of the words after `type` has its type's form
pub type_found : (ws : List (List ℕ)) (t : TypeInner) → type_of ws ≡ Some t → Matches (type_form t) ws
type_found [] t h = cc
type_found (form ∷ ws) t h =
    option_and_then_some _ (chosen type_readers form) t h λ reader e h.
    let each_row : AllByRecursion (λ row. HasForm row.0 row.1) type_readers = (
      struct_found,
      (scalar_type_found, (vector_found, (matrix_found, (cooperative_matrix_found, (atomic_found, (pointer_found, (value_pointer_found, (array_found, (binding_array_found, (image_found, (sampler_found, (acceleration_structure_found, (ray_query_found, tt))))))))))))),
    ) in
    chosen_holds HasForm type_readers form reader each_row e ws t h

-- words of a type's form are read as that type
pub type_again : (ws : List (List ℕ)) (t : TypeInner) → Matches (type_form t) ws → type_of ws ≡ Some t
type_again ws (Scalar s) h = by_parts (type_form (Scalar s)) ws (λ ws. type_of ws ≡ Some (Scalar s)) h
    (λ a e k f w g. rw (e, scalar_again k w s f g) refl)
type_again ws (Vector size s) h = by_parts (type_form (Vector size s)) ws (λ ws. type_of ws ≡ Some (Vector size s)) h
    (λ a e n f k g w i. rw (e, size_again n size f, scalar_again k w s g i) refl)
type_again ws (Matrix columns rows s) h = by_parts (type_form (Matrix columns rows s)) ws (λ ws. type_of ws ≡ Some (Matrix columns rows s)) h
    (λ a e m f n g k i w j. rw (e, size_again m columns f, size_again n rows g, scalar_again k w s i j) refl)
type_again ws (CooperativeMatrix columns rows s role) h =
    by_parts (type_form (CooperativeMatrix columns rows s role)) ws (λ ws. type_of ws ≡ Some (CooperativeMatrix columns rows s role)) h
    (λ a e m f n g k i w j r l. rw (e, cooperative_size_again m columns f, cooperative_size_again n rows g, scalar_again k w s i j, l) refl)
type_again ws (Atomic s) h = by_parts (type_form (Atomic s)) ws (λ ws. type_of ws ≡ Some (Atomic s)) h
    (λ a e k f w g. rw (e, scalar_again k w s f g) refl)
type_again ws (Pointer base space) h = by_parts (type_form (Pointer base space)) ws (λ ws. type_of ws ≡ Some (Pointer base space)) h
    (λ a e b f s g. rw (e, f, g) refl)
type_again ws (ValuePointer size scalar space) h = by_parts (type_form (ValuePointer size scalar space)) ws (λ ws. type_of ws ≡ Some (ValuePointer size scalar space)) h
    (λ a e n f k g w i s j. rw (e, pointed_size_again n size f, scalar_again k w scalar g i, j) refl)
type_again ws (Array base size stride) h = by_parts (type_form (Array base size stride)) ws (λ ws. type_of ws ≡ Some (Array base size stride)) h
    (λ a e b f z g s i. rw (e, f, array_size_again z size g, i) refl)
type_again ws (BindingArray base size) h = by_parts (type_form (BindingArray base size)) ws (λ ws. type_of ws ≡ Some (BindingArray base size)) h
    (λ a e b f z g. rw (e, f, array_size_again z size g) refl)
type_again ws (Image dim arrayed class) h = by_parts (type_form (Image dim arrayed class)) ws (λ ws. type_of ws ≡ Some (Image dim arrayed class)) h
    (λ a e d f r g x i. rw (e, f, g, i) refl)
type_again ws (Sampler comparison) h = by_parts (type_form (Sampler comparison)) ws (λ ws. type_of ws ≡ Some (Sampler comparison)) h
    (λ a e b f. rw (e, f) refl)
type_again ws (AccelerationStructure vertex_return) h = by_parts (type_form (AccelerationStructure vertex_return)) ws (λ ws. type_of ws ≡ Some (AccelerationStructure vertex_return)) h
    (λ a e b f. rw (e, f) refl)
type_again ws (RayQuery vertex_return) h = by_parts (type_form (RayQuery vertex_return)) ws (λ ws. type_of ws ≡ Some (RayQuery vertex_return)) h
    (λ a e b f. rw (e, f) refl)
type_again (a ∷ s ∷ ws) (Struct members span) h = rw (h.0, h.1.0, each_again member_of member_part member_again ws members h.1.1) refl
type_again (a ∷ []) (Struct members span) h = absurd h.1
type_again [] (Struct members span) h = absurd h
