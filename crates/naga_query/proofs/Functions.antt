-- What is known of a function or an entry point of a module.
use Rattle.std.proofs.Common.{◌≤◌, ℕ, inl, inr, length, subst, sym, arith}
use Rattle.std.proofs.lemmas.List.Elements.{Contains-append_left, Contains-append_right}
use Rattle.std.proofs.lemmas.Option.{slice_get_within}
use Rattle.naga_arena.proofs.Elements.{contains-map}
use Rattle.naga_ir.proofs.Handles.{function_references_ok}
use Rattle.naga_ir.specs.Handles.{FunctionReferencesOk, HandlesAccepted}
use Rattle.naga_ir.specs.declared.ir.EntryPoint.{EntryPoint}
use Rattle.naga_ir.specs.declared.ir.Function.{Function}
use Rattle.naga_ir.specs.declared.ir.Module.{Module}
use Rattle.naga_query.specs.Accepted.{IsFunctionAt}
use Rattle.naga_types.proofs.LayoutParts.{contains-place}
use Rattle.naga_valid.specs.Functions.{IsFunctionReady, AreFunctionsReadyInOrder}

module _ (m : Module) (f : Function) (n : ℕ) where
  -- the references of the function are right if the handles of the module are
  pub function_ok : HandlesAccepted m → IsFunctionAt m f n → FunctionReferencesOk m f
  function_ok handles (inl at) = function_references_ok m f (Contains-append_left m.functions _ f (contains-place m.functions n f at)) handles
  function_ok handles (inr (i, e, at, is, all)) =
      let among = Contains-append_right m.functions _ e.function (contains-map (λ (p : EntryPoint). p.function) m.entry_points e (contains-place m.entry_points i e at)) in
      subst (FunctionReferencesOk m) (sym is) (function_references_ok m e.function among handles)

  -- no more functions precede it than there are
  pub preceding_within : IsFunctionAt m f n → n ≤ length m.functions
  preceding_within (inl at) = let within = slice_get_within m.functions n f at in omega (arith, within)
  preceding_within (inr (i, e, at, is, all)) = omega (arith, all)

  -- the function can be validated once those that precede it are known
  pub ready_at : AreFunctionsReadyInOrder m → IsFunctionAt m f n → IsFunctionReady m f n
  ready_at in_order (inl at) = in_order.functions n f at
  ready_at in_order (inr (i, e, at, is, all)) =
      subst (λ (g : Function). IsFunctionReady m g n) (sym is) (subst (IsFunctionReady m e.function) (sym all) (in_order.entry_points i e at))
