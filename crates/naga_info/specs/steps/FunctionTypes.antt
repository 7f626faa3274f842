-- One more type.
use Rattle.std.specs.Prelude.{◌≡◌, [], ◌∷◌, ◌++◌, Ok}
use Rattle.naga_info.specs.declared.module_info.FunctionInfo.{FunctionInfo}
use Rattle.naga_typing.specs.PlainTyping.{ResolveResult}
use Rattle.naga_typing.specs.declared.typifier.TypeResolution.{TypeResolution}

-- `now` is `before` with one type more, the one in `resolved`
abbrev pub HasType : ResolveResult → FunctionInfo → FunctionInfo → Type 0
HasType resolved before now =
    (ty : TypeResolution) × (resolved ≡ Ok ty) × (now ≡ record before { types = before.types ++ ty ∷ [] })
