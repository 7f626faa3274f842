use Rattle.std.proofs.Common.{subst, sym, true}
use Rattle.std.proofs.lemmas.Result.{IfOk-weaker}
use Rattle.naga_text.specs.steps.SoFar.{IsAdded}
use Rattle.naga_text.proofs.SoFarLaws.{capabilities_added, comment_added, constant_added, flags_added, override_added, resolved_added}
use Rattle.naga_text.specs.declared.line.Line.TheVariants.{Fixed}
use Rattle.naga_text.proofs.text.add_fixed.Goals as goal

pub returns-in-Flags : goal.returns-in-Flags
returns-in-Flags c =
    let so_far = c.args.so_far.now in
    subst (λ line. IsAdded so_far (Fixed line) (record so_far { flags = c.set_once.new.setting }) c.set_once.result) (sym c.in-Flags.is)
    (flags_added so_far c.in-Flags.flags c.set_once.new.setting c.set_once.result c.set_once.ensures)

pub returns-in-Capabilities : goal.returns-in-Capabilities
returns-in-Capabilities c =
    let so_far = c.args.so_far.now in
    let set_once = c.set_once-in-Capabilities in
    subst (λ line. IsAdded so_far (Fixed line) (record so_far { capabilities = set_once.new.setting }) set_once.result) (sym c.in-Capabilities.is)
    (capabilities_added so_far c.in-Capabilities.capabilities set_once.new.setting set_once.result set_once.ensures)

pub returns-in-Resolved : goal.returns-in-Resolved
returns-in-Resolved c =
    let so_far = c.args.so_far.now in
    let set_once = c.set_once-in-Resolved in
    subst (λ line. IsAdded so_far (Fixed line) (record so_far { resolved = set_once.new.setting }) set_once.result) (sym c.in-Resolved.is)
    (resolved_added so_far set_once.new.setting set_once.result set_once.ensures)

pub returns-in-Constant : goal.returns-in-Constant
returns-in-Constant c =
    let so_far = c.args.so_far.now in
    let add_item = c.add_item in
    IfOk-weaker add_item.result _ _ (λ added h.
    subst (λ line. IsAdded so_far (Fixed line) (record so_far { «module» = record so_far.«module» { constants = add_item.new.items } }) added) (sym c.in-Constant.is)
    (constant_added so_far c.in-Constant.ty c.in-Constant.init add_item.new.items added h)) add_item.ensures

pub returns-in-Override : goal.returns-in-Override
returns-in-Override c =
    let so_far = c.args.so_far.now in
    let add_item = c.add_item-in-Override in
    IfOk-weaker add_item.result _ _ (λ added h.
    subst (λ line. IsAdded so_far (Fixed line) (record so_far { «module» = record so_far.«module» { overrides = add_item.new.items } }) added) (sym c.in-Override.is)
    (override_added so_far c.in-Override.ty c.in-Override.init c.in-Override.id add_item.new.items added h)) add_item.ensures

pub returns-in_ok-add_comment-in-Doc : goal.returns-in_ok-add_comment-in-Doc
returns-in_ok-add_comment-in-Doc c =
    let so_far = c.args.so_far.now in
    let comments = c.add_comment.new.comments in
    subst (λ line. IsAdded so_far (Fixed line) (record so_far { «module» = record so_far.«module» { doc_comments = record (so_far.«module».doc_comments) { struct_members = comments } } }) true) (sym c.in-Doc.is)
    (comment_added so_far c.in-Doc.ty c.in-Doc.member comments c.in_ok-add_comment-in-Doc.ensures)
