-- The types whose length doesn't depend on overrides.
use Rattle.std.specs.Prelude.{⊤}
use Rattle.naga_ir.specs.declared.types.TypeInner.{TypeInner}
use Rattle.naga_ir.specs.declared.types.TypeInner.TheVariants.{Array, BindingArray}

-- `inner` is neither an array nor a binding array
abbrev pub HasNoArraySize : TypeInner → Type 0
HasNoArraySize (Array base size stride) = ⊥
HasNoArraySize (BindingArray base size) = ⊥
HasNoArraySize _ = ⊤
