use Rattle.std.proofs.Common.{rules, ◌∷◌}
use Rattle.naga_c.specs.DeclarationValues.{disalignment_values}
use Rattle.naga_c.proofs.declaration_values.global_variable_error_values.Goals as goal

-- the address space and the type come before what the reason holds
pub returns-in-Alignment : goal.returns-in-Alignment
returns-in-Alignment c =
    let held = disalignment_values c.in-Alignment.disalignment in
    let of_type = c.after.ensures.value held c.disalignment_values.ensures.value in
    let whole = c.after-in-Alignment.ensures.value (c.index-in-Alignment.result ∷ held) of_type in
    search (rules, whole)
