use Rattle.std.proofs.Common.{◌≡◌, ℕ, Bool, List, None, Option, Some, false, rules, subst, sym}
use Rattle.std.proofs.lemmas.Result.{IfOk-weaker}
use Rattle.std.specs.Option.{MatchOption}
use Rattle.std.specs.Prelude.{IfOk, Result, option_and_then}
use Rattle.naga_arena.specs.declared.memory.OutOfMemory.{OutOfMemory}
use Rattle.naga_text.specs.LineWords.{words_left}
use Rattle.naga_text.specs.declared.line.Line.{Line}
use Rattle.naga_text.specs.declared.line.Line.TheVariants.{Expression, Type_}
use Rattle.naga_text.specs.declared.text.ContentsSoFar.{ContentsSoFar}
use Rattle.naga_ir.specs.declared.types.TypeInner.{TypeInner}
use Rattle.naga_ir.specs.declared.types.«Type».{«Type»}
use Rattle.naga_text.specs.steps.LineForms.{line_of, type_line_of, type_of}
use Rattle.naga_text.specs.steps.SoFar.{AreAdded, IsAdded, IsNewType, IsTypeAdded}
use Rattle.naga_text.proofs.SoFarLaws.{expression_added, type_added}
use Rattle.naga_text.proofs.text.add_words.Goals as goal

-- what a line adds, its words add
words_added : (words : List (List ℕ)) (line : Line) (old new : ContentsSoFar) (r : Result Bool OutOfMemory) → line_of words ≡ Some line → IfOk r (IsAdded old line new) → IfOk r (AreAdded old words new)
words_added words line old new r read h =
    IfOk-weaker r _ _ (λ added h. subst (λ said. MatchOption said (added ≡ false) (λ line. IsAdded old line new added)) (sym read) h) h

-- what a type adds, the words after `type` add
type_added_by : (old : ContentsSoFar) (types : List «Type») (added : Bool) (o : Option TypeInner) → MatchOption o (added ≡ false) (λ inner. IsNewType old.«module».types inner types added)
    → MatchOption (option_and_then (λ (inner : TypeInner). Some (Type_ inner)) o) (added ≡ false) (λ line. IsAdded old line (record old { «module» = record old.«module» { types = types } }) added)
type_added_by old types added None h = h
type_added_by old types added (Some inner) h = type_added old inner types added h

-- the same of words that begin with `type`
type_words_added : (words rest : List (List ℕ)) (old : ContentsSoFar) (types : List «Type») (r : Result Bool OutOfMemory) → line_of words ≡ type_line_of rest → IfOk r (IsTypeAdded old.«module».types rest types)
    → IfOk r (AreAdded old words (record old { «module» = record old.«module» { types = types } }))
type_words_added words rest old types r read h =
    IfOk-weaker r _ _ (λ added h. subst (λ said. MatchOption said (added ≡ false) (λ line. IsAdded old line (record old { «module» = record old.«module» { types = types } }) added)) (sym read) (type_added_by old types added (type_of rest) h)) h

pub returns-then-equals-clause-added : goal.returns-then-equals-clause-added
returns-then-equals-clause-added c =
    type_words_added (words_left c.args.words.now) (words_left c.next.new.self) c.args.so_far.now c.add_type_of.new.types c.add_type_of.result (search rules) c.add_type_of.ensures.added

pub returns-in-Some-2-clause-added : goal.returns-in-Some-2-clause-added
returns-in-Some-2-clause-added c =
    let so_far = c.args.so_far.now in
    let items = c.add_item.new.items in
    words_added (words_left c.args.words.now) (Expression c.in-Some-2.expression) so_far _ c.add_item.result (search rules)
    (IfOk-weaker c.add_item.result _ _ (expression_added so_far c.in-Some-2.expression items) c.add_item.ensures)
