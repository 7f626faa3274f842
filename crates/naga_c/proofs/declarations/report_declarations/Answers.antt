use Rattle.std.proofs.Common.{Option, Ok, Err, ap, refl, subst, sym}
use Rattle.naga_valid.specs.State.{Settings}
use Rattle.naga_valid.specs.declared.interface.DeclarationsError.{DeclarationsError}
use Rattle.naga_c.specs.Declarations.{TellsDeclarations, TellsRefusal, all_accepted, one_refused}
use Rattle.naga_c.specs.declared.refusal.Refusal.{Refusal}
use Rattle.naga_c.proofs.DeclarationLaws.{declares_as}
use Rattle.naga_c.proofs.declarations.report_declarations.Goals as goal

pub returns-in_default : goal.returns-in_default
returns-in_default c =
    let capabilities = ap (λ (s : Settings). s.capabilities) c.requires.settings in
    all_accepted c.validate_declarations.new.mod_info.lists
    (declares_as c.args.subject.now c.args.validator.now c.args.info.now.lists c.validate_declarations.new.mod_info.lists (Ok tt) capabilities c.requires.subgroups c.in_default.ensures) c.counts_of.ensures refl

pub returns-in-Variable : goal.returns-in-Variable
returns-in-Variable c =
    let m = c.args.subject.now.«module» in
    let lists = c.validate_declarations.new.mod_info.lists in
    let capabilities = ap (λ (s : Settings). s.capabilities) c.requires.settings in
    let tells = subst (λ (r : Option Refusal). TellsRefusal m r c.tell_refusal.new.outcome c.tell_refusal.result) c.variables_refusal.ensures c.tell_refusal.ensures in
    one_refused lists c.in-Err.refused
    (declares_as c.args.subject.now c.args.validator.now c.args.info.now.lists lists (Err c.in-Err.refused) capabilities c.requires.subgroups c.in-Err.ensures)
    (subst (λ (e : DeclarationsError). TellsDeclarations m e c.tell_refusal.new.outcome c.tell_refusal.result) (sym c.in-Variable.is) tells)

pub returns-in-Function : goal.returns-in-Function
returns-in-Function c =
    let m = c.args.subject.now.«module» in
    let lists = c.validate_declarations.new.mod_info.lists in
    let capabilities = ap (λ (s : Settings). s.capabilities) c.requires.settings in
    one_refused lists c.in-Err.refused
    (declares_as c.args.subject.now c.args.validator.now c.args.info.now.lists lists (Err c.in-Err.refused) capabilities c.requires.subgroups c.in-Err.ensures)
    (subst (λ (e : DeclarationsError). TellsDeclarations m e c.tell_expression.new.outcome c.tell_expression.result) (sym c.in-Function.is) c.tell_expression.ensures)

pub returns : goal.returns
returns c =
    let m = c.args.subject.now.«module» in
    let lists = c.validate_declarations.new.mod_info.lists in
    let capabilities = ap (λ (s : Settings). s.capabilities) c.requires.settings in
    let tells = subst (λ (r : Option Refusal). TellsRefusal m r c.tell_refusal-in-Interface.new.outcome c.tell_refusal-in-Interface.result) c.interfaces_refusal.ensures c.tell_refusal-in-Interface.ensures in
    one_refused lists c.in-Err.refused
    (declares_as c.args.subject.now c.args.validator.now c.args.info.now.lists lists (Err c.in-Err.refused) capabilities c.requires.subgroups c.in-Err.ensures)
    (subst (λ (e : DeclarationsError). TellsDeclarations m e c.tell_refusal-in-Interface.new.outcome c.tell_refusal-in-Interface.result) (sym c.in-Interface.is) tells)
