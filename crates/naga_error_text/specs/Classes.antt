-- The texts of classes of images.
use Rattle.std.specs.Prelude.{ℕ, List, [], ◌∷◌, ◌==◌, codes, if◌then◌else◌}
use Rattle.std.specs.List.{concat}
use Rattle.naga_error_text.specs.declared.names.Names.TheVariants.{Accesses, Bools, ScalarKinds, StorageFormats}
use Rattle.naga_error_text.specs.declared.pieces.ImageClass.{ImageClass}
use Rattle.naga_error_text.specs.declared.pieces.ImageClass.TheVariants.{Sampled, Depth, Storage, External, Unknown}
use Rattle.naga_error_text.specs.declared.pieces.Values.{Values}
use Rattle.naga_error_text.specs.Names.{named}

-- the class of images of a number
abbrev pub image_class_of : ℕ → ImageClass
image_class_of n =
    if n == 0 then Sampled
    else (if n == 1 then Depth else (if n == 2 then Storage else (if n == 3 then External else Unknown)))

-- what the text of each class of images says of its two words, which are the first two of the values `v`
abbrev pub image_class_parts : ImageClass → Values → List (List ℕ)
image_class_parts Sampled v =
    codes "Sampled { kind: " ∷ named ScalarKinds v.first ∷ codes ", multi: " ∷ named Bools v.second ∷ codes " }" ∷ []
image_class_parts Depth v = codes "Depth { multi: " ∷ named Bools v.first ∷ codes " }" ∷ []
image_class_parts Storage v =
    codes "Storage { format: " ∷ named StorageFormats v.first ∷ codes ", access: " ∷ named Accesses v.second ∷
    codes " }" ∷ []
image_class_parts External v = codes "External" ∷ []
image_class_parts Unknown v = codes "unknown" ∷ []

-- two values
abbrev pub two_values : ℕ → ℕ → Values
two_values a b = record { first = a; second = b; third = 0; fourth = 0; fifth = 0; index = 0; expression = 0; kind = 0 }

-- the text of the class of images with the number `n` and the words `a` and `b`
abbrev pub image_class : (n a b : ℕ) → List ℕ
image_class n a b = concat (image_class_parts (image_class_of n) (two_values a b))
