-- A typing that supports only the variants whose types the laws give.
use Rattle.std.specs.Prelude.{◌≡◌, List, Ok, Err}
use Rattle.naga_ir.specs.ItemReferences.{global_lists}
use Rattle.naga_ir.specs.declared.expression.Expression.{Expression}
use Rattle.naga_ir.specs.declared.expression.Expression.TheVariants as form
use Rattle.naga_ir.specs.declared.ir.Module.{Module}
use Rattle.naga_typing.specs.PlainLaws.{plain_lawful}
use Rattle.naga_typing.specs.PlainTyping.{ResolveResult, plain_resolves}
use Rattle.naga_typing.specs.Resolutions.{IsProperResolution, ResolutionExists}
use Rattle.naga_typing.specs.Typings.{CanResolve, IsLawful}
use Rattle.naga_typing.specs.declared.typifier.ResolveError.TheVariants.{NotResolvable, OutOfMemory}
use Rattle.naga_typing.specs.declared.typifier.TypeResolution.{TypeResolution}

-- the type of an expression with a declared type, of a literal or of a splat
unfoldable pub declared_resolves : Module → Expression → List TypeResolution → ResolveResult
declared_resolves m (form.Literal value) earlier = plain_resolves m (form.Literal value) earlier
declared_resolves m (form.Constant c) earlier = plain_resolves m (form.Constant c) earlier
declared_resolves m (form.Override o) earlier = plain_resolves m (form.Override o) earlier
declared_resolves m (form.ZeroValue ty) earlier = plain_resolves m (form.ZeroValue ty) earlier
declared_resolves m (form.Compose ty components) earlier = plain_resolves m (form.Compose ty components) earlier
declared_resolves m (form.Splat size value) earlier = plain_resolves m (form.Splat size value) earlier
declared_resolves m _ earlier = Err NotResolvable

-- everything that a type which `DeclaredTyping` resolves refers to exists
exist : (m : Module) (x : Expression) (earlier : List TypeResolution) (r : TypeResolution) → CanResolve m x earlier
    → declared_resolves m x earlier ≡ Ok r → ResolutionExists (global_lists m) r
unfolding declared_resolves
exist m (form.Literal value) earlier r can is = plain_lawful.exist m (form.Literal value) earlier r can is
exist m (form.Constant c) earlier r can is = plain_lawful.exist m (form.Constant c) earlier r can is
exist m (form.Override o) earlier r can is = plain_lawful.exist m (form.Override o) earlier r can is
exist m (form.ZeroValue ty) earlier r can is = plain_lawful.exist m (form.ZeroValue ty) earlier r can is
exist m (form.Compose ty components) earlier r can is =
    plain_lawful.exist m (form.Compose ty components) earlier r can is
exist m (form.Splat size value) earlier r can is = plain_lawful.exist m (form.Splat size value) earlier r can is
exist m _ earlier r can is = cc

-- each type that `DeclaredTyping` resolves is proper
proper : (m : Module) (x : Expression) (earlier : List TypeResolution) (r : TypeResolution) → CanResolve m x earlier
    → declared_resolves m x earlier ≡ Ok r → IsProperResolution r
unfolding declared_resolves
proper m (form.Literal value) earlier r can is = plain_lawful.proper m (form.Literal value) earlier r can is
proper m (form.Constant c) earlier r can is = plain_lawful.proper m (form.Constant c) earlier r can is
proper m (form.Override o) earlier r can is = plain_lawful.proper m (form.Override o) earlier r can is
proper m (form.ZeroValue ty) earlier r can is = plain_lawful.proper m (form.ZeroValue ty) earlier r can is
proper m (form.Compose ty components) earlier r can is =
    plain_lawful.proper m (form.Compose ty components) earlier r can is
proper m (form.Splat size value) earlier r can is = plain_lawful.proper m (form.Splat size value) earlier r can is
proper m _ earlier r can is = cc

-- `DeclaredTyping` is never out of memory
decided : (m : Module) (x : Expression) (earlier : List TypeResolution) → CanResolve m x earlier
    → declared_resolves m x earlier ≡ Err OutOfMemory → ⊥
unfolding declared_resolves
decided m (form.Literal value) earlier can is = plain_lawful.decided m (form.Literal value) earlier can is
decided m (form.Constant c) earlier can is = plain_lawful.decided m (form.Constant c) earlier can is
decided m (form.Override o) earlier can is = plain_lawful.decided m (form.Override o) earlier can is
decided m (form.ZeroValue ty) earlier can is = plain_lawful.decided m (form.ZeroValue ty) earlier can is
decided m (form.Compose ty components) earlier can is =
    plain_lawful.decided m (form.Compose ty components) earlier can is
decided m (form.Splat size value) earlier can is = plain_lawful.decided m (form.Splat size value) earlier can is
decided m _ earlier can is = cc

-- `DeclaredTyping` is a lawful typing
pub declared_lawful : IsLawful declared_resolves
unfolding declared_resolves
declared_lawful = record {
  literals = plain_lawful.literals;
  constants = plain_lawful.constants;
  overrides = plain_lawful.overrides;
  zero_values = plain_lawful.zero_values;
  compositions = plain_lawful.compositions;
  splats = plain_lawful.splats;
  exist = exist;
  proper = proper;
  decided = decided;
}
