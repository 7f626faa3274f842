-- What a call returns by a rule, out of memory aside.
use Rattle.std.specs.Prelude.{◌∷◌, ⊤, Result, Err}
use Rattle.naga_arena.specs.Results.{IsResultOf}
use Rattle.naga_types.specs.declared.error.TypeError.{TypeError}
use Rattle.naga_types.specs.declared.error.TypeError.TheVariants.{InvalidDynamicArray, OutOfMemory}

-- a result needs memory: it is an error that holds a text, which is not empty
abbrev pub NeedsMemory : {A : Type 0} → Result A TypeError → Type 0
NeedsMemory (Err (InvalidDynamicArray (c ∷ name) ty)) = ⊤
NeedsMemory _ = ⊥

-- a call returns `result`, which is what `rule` says, or `OutOfMemory` if that needs memory
abbrev pub IsRuleResult : {A : Type 0} → Result A TypeError → Result A TypeError → Type 0
IsRuleResult rule result = IsResultOf NeedsMemory OutOfMemory rule result
