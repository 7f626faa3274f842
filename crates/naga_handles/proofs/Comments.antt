-- What comments name by a handle.
use Rattle.std.proofs.Common.{◌≡◌, ◌∙◌, ℕ, List, ◌++◌, ap, append_assoc, map}
use Rattle.naga_ir.specs.ItemReferences.{comment_references}
use Rattle.naga_ir.specs.declared.ir.DocComments.{DocComments}
use Rattle.naga_ir.specs.declared.reference.Reference.{Reference}
use Rattle.naga_ir.specs.declared.reference.Reference.TheVariants as to
use Rattle.naga_handles.specs.steps.ItemChecks.{documented_references}

-- the types of members come last
pub members-last : (d : DocComments) → documented_references d ++ map (λ (c : (ℕ × ℕ) × List (List ℕ)). to.Type_ c.0.0) d.struct_members ≡ comment_references d
members-last d =
    let types : List Reference = map (λ (c : ℕ × List (List ℕ)). to.Type_ c.0) d.types in
    let functions : List Reference = map (λ (c : ℕ × List (List ℕ)). to.Function c.0) d.functions in
    let constants : List Reference = map (λ (c : ℕ × List (List ℕ)). to.Constant c.0) d.constants in
    let variables : List Reference = map (λ (c : ℕ × List (List ℕ)). to.GlobalVariable c.0) d.global_variables in
    let members : List Reference = map (λ (c : (ℕ × ℕ) × List (List ℕ)). to.Type_ c.0.0) d.struct_members in
    append_assoc types (functions ++ (constants ++ variables)) members
    ∙ ap (λ rest. types ++ rest)
    (append_assoc functions (constants ++ variables) members ∙ ap (λ rest. functions ++ rest) (append_assoc constants variables members))
