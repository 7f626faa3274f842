use Rattle.std.proofs.Common.{rules, ◌≡◌, [], ◌∷◌, ◌++◌, length, map, refl, sym, subst, ap, ◌∙◌, inr, arith, length-append}
use Rattle.std.proofs.lemmas.Option.{slice_get_within}
use Rattle.naga_arena.proofs.InOrder.{none_follow, one_more_follows}
use Rattle.naga_arena.specs.InOrder.{given_at}
use Rattle.naga_info.specs.ModuleInfo.{ModuleInfoLists}
use Rattle.naga_ir.specs.ItemReferences.{global_lists}
use Rattle.naga_types.specs.AcceptedTypes.{types_rule}
use Rattle.naga_types.specs.declared.error.TypeError.TheVariants.{OutOfMemory as NoMemory}
use Rattle.naga_types.specs.declared.info.TypeInfo.{TypeInfo}
use Rattle.naga_typing.proofs.Iteration.{Iterating, accepts_all, all_counted, begin, next_index, next_item, one_more}
use Rattle.naga_arena.specs.Span.{inner_of}
use Rattle.naga_valid.specs.Accepted.{Refuses}
use Rattle.naga_valid.specs.declared.error.ValidationError.{ValidationError}
use Rattle.naga_valid.specs.declared.error.ValidationError.TheVariants.{Type_}
use Rattle.naga_valid.proofs.Refusals.{type_refuses}
use Rattle.naga_valid.proofs.RuleResults.{returns_err, returns_ok}
use Rattle.naga_valid.proofs.driver.validate_types.Goals as goal

pub loop-handle-init : goal.loop-handle-init
loop-handle-init c =
    let m = c.args.module.now in
    let made = c.in_ok-make_room.ensures in
    record {
      iterating = subst (λ n. Iterating accepts_all m.types n c.into_iter-handle-iterator.result) (sym (ap length made.infos)) (begin accepts_all m.types _ (c.into_iter-handle-iterator.ensures.into_iter_gives ∙ c.iter-handle-items.ensures));
      follow = none_follow (types_rule (global_lists m) c.args.settings.capabilities c.args.settings.resolved c.args.layouter.now) m.types _ made.infos;
    }

pub type_info_of-requires-clause-exists : goal.type_info_of-requires-clause-exists
type_info_of-requires-clause-exists c = slice_get_within c.args.module.now.types _ _ (next_item accepts_all c.args.module.now.types _ _ _ _ _ c.loop-handle.invariant.iterating c.in-Some.ensures.steps)

pub type_info_of-requires-clause-known : goal.type_info_of-requires-clause-known
type_info_of-requires-clause-known c =
    let here = next_index accepts_all c.args.module.now.types _ _ _ _ _ c.loop-handle.invariant.iterating c.in-Some.ensures.steps in
    omega (arith, here)

pub get_span-requires : goal.get_span-requires
get_span-requires c = slice_get_within c.args.module.now.types _ _ (next_item accepts_all c.args.module.now.types _ _ _ _ _ c.loop-handle.invariant.iterating c.in-Some.ensures.steps)

pub loop-handle-preserved : goal.loop-handle-preserved
loop-handle-preserved c =
    let m = c.args.module.now in
    let settings = c.args.settings in
    let infos = c.loop-handle.infos.infos in
    let info = c.in-Ok.info in
    let pushed = c.in_ok-push-in-Ok.ensures.pushed in
    let rule = types_rule (global_lists m) settings.capabilities settings.resolved c.args.layouter.now in
    let iterating = c.loop-handle.invariant.iterating in
    let at = next_item accepts_all m.types _ _ _ _ _ iterating c.in-Some.ensures.steps in
    let place = next_index accepts_all m.types _ _ _ _ _ iterating c.in-Some.ensures.steps in
    let given = returns_ok m settings.capabilities settings.resolved c.args.layouter.now infos c.in-Some.handle c.in-Some.ty.now at info c.in-Ok.ensures in
    record {
      iterating = subst (λ n. Iterating accepts_all m.types n c.next.new.self) (sym (ap length pushed ∙ length-append infos (info ∷ []))) (one_more accepts_all m.types _ _ _ _ _ iterating c.in-Some.ensures.steps refl);
      follow = one_more_follows rule m.types infos _ info c.loop-handle.invariant.follow (ap (given_at rule m.types infos) (sym place) ∙ given) pushed;
    }

pub returns-in-Err : goal.returns-in-Err
returns-in-Err c =
    let m = c.args.module.now in
    let settings = c.args.settings in
    let infos = c.loop-handle.infos.infos in
    let layouts = c.args.layouter.now in
    let iterating = c.loop-handle.invariant.iterating in
    let at = next_item accepts_all m.types _ _ _ _ _ iterating c.in-Some.ensures.steps in
    let place = next_index accepts_all m.types _ _ _ _ _ iterating c.in-Some.ensures.steps in
    let other : ¬ (c.in-Err.source ≡ NoMemory) = search rules in
    let error : ValidationError = Type_ c.in-Some.handle c.in_ok-name-in-Err.name c.in-Err.source in
    let is : inner_of c.with_span.result ≡ error = c.with_span.ensures.inner ∙ c.new-in-Err.ensures.inner in
    inr (λ resolves. subst (Refuses resolves m settings) (sym is) (type_refuses resolves m settings c.in-Some.handle c.in_ok-name-in-Err.name c.in-Err.source (record {
      layouts = layouts;
      laid_out = c.requires;
      first = record {
        before = infos;
        as_many = sym place;
        follow = c.loop-handle.invariant.follow;
        refused = returns_err m settings.capabilities settings.resolved layouts infos c.in-Some.handle c.in-Some.ty.now at c.in-Err.source c.in-Err.ensures other;
      };
      named = (c.in-Some.ty.now, at, c.in_ok-name-in-Err.ensures);
    })))

pub returns : goal.returns
returns c = (
  record {
    layouts = c.args.layouter.now;
    accepted = record {
      laid_out = c.requires;
      each_type = record { as_many = all_counted accepts_all c.args.module.now.types _ _ c.loop-handle.invariant.iterating c.in-None.ensures.steps.0; follow = c.loop-handle.invariant.follow };
    };
  },
  c.in_ok-copy_flags.ensures.copied ∙ ap (λ (l : ModuleInfoLists). record l { type_flags = l.type_flags ++ map (λ (i : TypeInfo). i.flags) c.loop-handle.infos.infos }) (c.in_ok-make_room.ensures.mod_info ∙ c.new-mod_info.ensures),
)
