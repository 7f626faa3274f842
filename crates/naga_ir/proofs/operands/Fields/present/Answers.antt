use Rattle.std.proofs.Common.{◌≡◌, ◌∙◌, ◌+◌, ◌<◌, ◌++◌, ◌∷◌, [], ℕ, List, Option, ap, append-nil, arith, get_or, length, option_to_list, sym, take}
use Rattle.std.proofs.lemmas.Grind.{flat_map-append}
use Rattle.std.proofs.lemmas.List.{length-set, take_more, take_more_set}
use Rattle.naga_ir.specs.Operands.{present}
use Rattle.naga_ir.proofs.operands.Fields.present.Goals as goal
use Rattle.naga_ir.proofs.operands.Fields.present.Goals.{in-Some, in_default}

-- one option more adds its value, if it has one
present_more : {X : Type 0} (options : List (Option X)) (i : ℕ) (d : Option X) → i < length options → present (take (i + 1) options) ≡ present (take i options) ++ option_to_list (get_or options i d)
present_more options i d h =
    ap present (take_more options i d h) ∙ flat_map-append option_to_list (take i options) (get_or options i d ∷ []) ∙ ap (λ l. present (take i options) ++ l) (append-nil (option_to_list (get_or options i d)))

pub loop-option-preserved : goal.loop-option-preserved
loop-option-preserved c =
    let i = c.loop-option.option-index in
    let options = c.args.options.now in
    let within : i < length options = omega (arith, c.type_inv.options, c.loop-option-test.true) in
    let more = present_more options i c.option-item.result within in
    let few = c.loop-option.invariant.few in
    let whole = c.loop-option.invariant.whole in
    elim c.match-option.branch [
      | in-Some w ↦
          let room : c.loop-option.end < length c.loop-option.operands = omega (arith, whole, few, c.loop-option-test.true) in record {
            front = ap (λ n. take n c.match-option.operands) w.end-is ∙ ap (take (c.loop-option.end + 1)) w.operands-is ∙ take_more_set c.loop-option.operands c.loop-option.end w.in-Some.operand room
                ∙ ap (λ l. l ++ w.in-Some.operand ∷ []) c.loop-option.invariant.front ∙ ap (λ o. present (take i options) ++ option_to_list o) (sym w.in-Some.is) ∙ sym more;
            few = omega (arith, w.end-is, few);
            whole = ap length w.operands-is ∙ length-set c.loop-option.operands c.loop-option.end w.in-Some.operand ∙ whole;
          }
      | in_default w ↦ record {
        front = ap (λ n. take n c.match-option.operands) w.end-is ∙ ap (take c.loop-option.end) w.operands-is ∙ c.loop-option.invariant.front ∙ sym (append-nil (present (take i options)))
            ∙ ap (λ o. present (take i options) ++ option_to_list o) (sym w.in_default.is) ∙ sym more;
        few = omega (arith, w.end-is, few);
        whole = ap length w.operands-is ∙ whole;
      }
    ]
