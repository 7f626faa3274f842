-- What follows if all checks are accepted.
use Rattle.std.proofs.Common.{◌≡◌, ◌<◌, ℕ, List, [], ◌++◌, Option, Some, None, All, map, slice_get, length, subst, refl, arith, option_to_list}
use Rattle.std.specs.Prelude.{Result, Ok, Err, OnOk}
use Rattle.std.specs.List.{enumerate_from, flat_map}
use Rattle.std.proofs.lemmas.List.Elements.{All-append, All-contains, All-map, All-nil, All-cons, All-weaker}
use Rattle.std.proofs.lemmas.Option.{same_Some, slice_get_within}
use Rattle.naga_ir.specs.Handles.{Counts, Exists, MemberExists, OrderedOperands, function_counts, module_counts, own_operand, place_of}
use Rattle.naga_ir.specs.ItemReferences.{all_functions, body_references, comment_references, constant_references, entry_point_references, expression_references, function_references, global_variable_references, local_references, named_references, other_references, override_references, signature_references, special_types}
use Rattle.naga_ir.specs.References.{operands}
use Rattle.naga_ir.specs.FirstError.{ChecksEach}
use Rattle.naga_ir.specs.declared.types.«Type».{«Type»}
use Rattle.naga_ir.specs.declared.expression.Expression.{Expression}
use Rattle.naga_ir.specs.declared.ir.DiagnosticFilterNode.{DiagnosticFilterNode}
use Rattle.naga_ir.specs.declared.ir.EntryPoint.{EntryPoint}
use Rattle.naga_ir.specs.declared.ir.Function.{Function}
use Rattle.naga_ir.specs.declared.ir.Module.{Module}
use Rattle.naga_ir.specs.declared.reference.Reference.{Reference}
use Rattle.naga_ir.specs.declared.reference.Reference.TheVariants as to
use Rattle.naga_handles.specs.steps.ItemChecks.{IsResult, IsEntryPointResult, IsMemberResult, Check, Passes, all_filter_checks, code_checks, documented_references, entry_point_checks, expression_checks, filter_checks, function_checks, checks, module_checks, numbered_checks, valued_references}
use Rattle.naga_handles.specs.steps.Checks.{Precedes, Subjects, of_expression, of_filter, of_function}
use Rattle.naga_handles.specs.steps.OtherItems.{OtherItemsOk}
use Rattle.naga_handles.specs.declared.error.ValidationFault.{ValidationFault}
use Rattle.naga_arena.proofs.Elements.{all-left, all-right, all-unmap}
use Rattle.naga_handles.proofs.ListItems.{all-flat, all-places, all-unflat, enumerated}
use Rattle.naga_handles.proofs.Comments.{members-last}
use Rattle.naga_handles.proofs.CheckLemmas.{check}

-- a reference exists, and a function precedes the one that names it
pub record PassesIn (n : Counts) (caller : Option ℕ) (r : Reference) : Type 0 where
  pub there : Exists n r
  pub before : (i j : ℕ) → caller ≡ Some i → r ≡ to.Function j → j < i

-- a function of an index is in the module
abbrev pub IsThere : Counts → Option ℕ → Type 0
IsThere n caller = (i : ℕ) → caller ≡ Some i → i < n.functions

-- what a check accepts is right
stands : (n : Counts) (caller : Option ℕ) (r : Reference) → IsThere n caller → Precedes n (of_function caller r) r → PassesIn n caller r
stands n caller (to.Type_ t) in_module h = record { there = h; before = λ i j c e. cc }
stands n caller (to.Constant k) in_module h = record { there = h; before = λ i j c e. cc }
stands n caller (to.Override o) in_module h = record { there = h; before = λ i j c e. cc }
stands n caller (to.GlobalVariable v) in_module h = record { there = h; before = λ i j c e. cc }
stands n caller (to.Expression x) in_module h = record { there = h; before = λ i j c e. cc }
stands n caller (to.LocalVariable v) in_module h = record { there = h; before = λ i j c e. cc }
stands n None (to.Function f) in_module h = record { there = h; before = λ i j c e. cc }
stands n (Some k) (to.Function f) in_module h =
    let within : k < n.functions = in_module k refl in
    record {
      there = omega (arith, h, within);
      before = λ i j c e. let same : f ≡ j = cc in let caller_is : k ≡ i = same_Some k i c in omega (arith, h, same, caller_is);
    }
stands n caller (to.DiagnosticFilterNode d) in_module h = record { there = h; before = λ i j c e. cc }
stands n caller (to.Emit range) in_module h = record { there = h; before = λ i j c e. cc }

-- a plain check accepts what exists
pub exists : (n : Counts) (r : Reference) → Precedes n (of_function None r) r → Exists n r
exists n r h = (stands n None r (λ i e. cc) h).there

-- what all checks of a list accept
pub all-pass : (n : Counts) (caller : Option ℕ) (rs : List Reference) → IsThere n caller → All Passes (checks n (of_function caller) rs) → All (PassesIn n caller) rs
all-pass n caller rs in_module all =
    All-weaker (λ r. Passes (check n (of_function caller) r)) (PassesIn n caller) (λ r h. stands n caller r in_module h) rs (all-unmap Passes (check n (of_function caller)) rs all)

-- what all plain checks of a list accept exists
pub all-exist : (n : Counts) (rs : List Reference) → All Passes (checks n (of_function None) rs) → All (Exists n) rs
all-exist n rs all = All-weaker (λ r. Passes (check n (of_function None) r)) (Exists n) (λ r h. exists n r h) rs (all-unmap Passes (check n (of_function None)) rs all)

-- all that a function refers to is right, and the operands of its expressions precede them
pub record FunctionOk (n : Counts) (caller : Option ℕ) (f : Function) : Type 0 where
  pub references : All (PassesIn n caller) (function_references f)
  pub back : (s t : Reference) → OrderedOperands f.expressions s t → place_of t < place_of s

-- a function of which all checks are accepted
module _ (n : Counts) (caller : Option ℕ) (f : Function) (in_module : IsThere n caller) (all : All Passes (function_checks n caller f)) where
  abbrev In : Reference → Type 0
  In = PassesIn n caller

  abbrev subjects : Subjects
  subjects = of_function caller

  after_signature : All Passes (checks n subjects (local_references f) ++ (flat_map (expression_checks n caller) (enumerate_from 0 f.expressions) ++ checks n subjects (body_references f)))
  after_signature = all-right Passes (checks n subjects (signature_references f)) _ all

  after_locals : All Passes (flat_map (expression_checks n caller) (enumerate_from 0 f.expressions) ++ checks n subjects (body_references f))
  after_locals = all-right Passes (checks n subjects (local_references f)) _ after_signature

  at_expression : (e : ℕ) (x : Expression) → slice_get f.expressions e ≡ Some x → All Passes (expression_checks n caller (e, x))
  at_expression e x at =
      all-unflat Passes (expression_checks n caller) (enumerate_from 0 f.expressions) e (e, x) (enumerated f.expressions e x at)
      (all-left Passes (flat_map (expression_checks n caller) (enumerate_from 0 f.expressions)) (checks n subjects (body_references f)) after_locals)

  operands_before : (e : ℕ) (x : Expression) → slice_get f.expressions e ≡ Some x → All (λ o. o < e) (operands x)
  operands_before e x at =
      all-unmap (λ r. Passes (check n (of_expression e) r)) to.Expression (operands x)
      (all-unmap Passes (check n (of_expression e)) (map to.Expression (operands x))
      (all-left Passes (checks n (of_expression e) (map to.Expression (operands x))) (checks n subjects (named_references x)) (at_expression e x at)))

  operands_back : (s t : Reference) → OrderedOperands f.expressions s t → place_of t < place_of s
  operands_back s t (own_operand e o x at h) = All-contains (λ k. k < e) (operands x) o (operands_before e x at) h

  in_signature : All In (signature_references f)
  in_signature = all-pass n caller (signature_references f) in_module (all-left Passes (checks n subjects (signature_references f)) _ all)

  in_locals : All In (local_references f)
  in_locals = all-pass n caller (local_references f) in_module (all-left Passes (checks n subjects (local_references f)) _ after_signature)

  in_body : All In (body_references f)
  in_body =
      all-pass n caller (body_references f) in_module
      (all-right Passes (flat_map (expression_checks n caller) (enumerate_from 0 f.expressions)) (checks n subjects (body_references f)) after_locals)

  in_expression : n.expressions ≡ length f.expressions → (e : ℕ) (x : Expression) → slice_get f.expressions e ≡ Some x → All In (expression_references x)
  in_expression count e x at =
      let within : e < length f.expressions = slice_get_within f.expressions e x at in
      All-append In (map to.Expression (operands x)) (named_references x)
      (All-map In to.Expression (operands x)
      (All-weaker (λ o. o < e) (λ o. In (to.Expression o)) (λ o h. record { there = omega (arith, h, within, count); before = λ i j c is. cc }) (operands x) (operands_before e x at)))
      (all-pass n caller (named_references x) in_module
      (all-right Passes (checks n (of_expression e) (map to.Expression (operands x))) (checks n subjects (named_references x)) (at_expression e x at)))

  -- all that it refers to is right, and operands precede
  pub function-ok : n.expressions ≡ length f.expressions → FunctionOk n caller f
  function-ok count = record {
    references =
        All-append In (signature_references f) _ in_signature
        (All-append In (local_references f) _ in_locals
        (All-append In (flat_map expression_references f.expressions) _
        (all-flat In expression_references f.expressions (all-places (λ (x : Expression). All In (expression_references x)) f.expressions (in_expression count)))
        in_body));
    back = operands_back;
  }

-- the filter around another comes before it
before-filter : (n : Counts) (d p : ℕ) (o : Option ℕ) → o ≡ Some p → All Passes (checks n (of_filter d) (map to.DiagnosticFilterNode (option_to_list o))) → p < d
before-filter n d p o e all =
    All-contains Passes (checks n (of_filter d) (map to.DiagnosticFilterNode (option_to_list (Some p)))) (check n (of_filter d) (to.DiagnosticFilterNode p))
    (subst (λ (q : Option ℕ). All Passes (checks n (of_filter d) (map to.DiagnosticFilterNode (option_to_list q)))) e all) (0, omega arith, refl)

-- the filter around another exists
filter-there : (n : Counts) (o : Option ℕ) → ((p : ℕ) → o ≡ Some p → p < n.diagnostic_filters) → All (Exists n) (map to.DiagnosticFilterNode (option_to_list o))
filter-there n None f = All-nil (Exists n)
filter-there n (Some p) f = All-cons (Exists n) (to.DiagnosticFilterNode p) [] (f p refl) (All-nil (Exists n))

-- a type that has a member exists
member-type : (types : List «Type») (place : ℕ × ℕ) → MemberExists types place → place.0 < length types
member-type types place (t, members, span, at, is, within) = slice_get_within types place.0 t at

-- a module of which all checks are accepted
module _ (m : Module) (all : All Passes (module_checks m)) where
  abbrev n : Counts
  n = module_counts m

  abbrev plain : List Reference → List Check
  plain = checks n (of_function None)

  after_valued : All Passes (code_checks m ++ (plain (map to.Type_ (special_types m.special_types)) ++ (all_filter_checks m ++ plain (documented_references m.doc_comments))))
  after_valued = all-right Passes (plain (valued_references m)) _ all

  after_code : All Passes (plain (map to.Type_ (special_types m.special_types)) ++ (all_filter_checks m ++ plain (documented_references m.doc_comments)))
  after_code = all-right Passes (code_checks m) _ after_valued

  after_special : All Passes (all_filter_checks m ++ plain (documented_references m.doc_comments))
  after_special = all-right Passes (plain (map to.Type_ (special_types m.special_types))) _ after_code

  valued : All (Exists n) (valued_references m)
  valued = all-exist n (valued_references m) (all-left Passes (plain (valued_references m)) _ all)

  in_code : All Passes (code_checks m)
  in_code = all-left Passes (code_checks m) _ after_valued

  at_entry_point : (k : ℕ) (p : EntryPoint) → slice_get m.entry_points k ≡ Some p → All Passes (entry_point_checks m p)
  at_entry_point k p at = all-unflat Passes (entry_point_checks m) m.entry_points k p at (all-left Passes (flat_map (entry_point_checks m) m.entry_points) _ in_code)

  in_start : (k : ℕ) (p : EntryPoint) → slice_get m.entry_points k ≡ Some p → FunctionOk (function_counts m p.function) None p.function
  in_start k p at =
      function-ok (function_counts m p.function) None p.function (λ i e. cc)
      (all-left Passes (function_checks (function_counts m p.function) None p.function) _ (at_entry_point k p at)) refl

  in_numbered : (i : ℕ) (f : Function) → slice_get m.functions i ≡ Some f → FunctionOk (function_counts m f) (Some i) f
  in_numbered i f at =
      let within : i < length m.functions = slice_get_within m.functions i f at in
      function-ok (function_counts m f) (Some i) f (λ k e. subst (λ j. j < length m.functions) (same_Some i k e) within)
      (all-unflat Passes (numbered_checks m) (enumerate_from 0 m.functions) i (i, f) (enumerated m.functions i f at)
      (all-right Passes (flat_map (entry_point_checks m) m.entry_points) _ in_code)) refl

  -- what holds of each function that is right holds of all
  every_function : (P : Function → Type 0) → ((caller : Option ℕ) (f : Function) → FunctionOk (function_counts m f) caller f → P f) → All P (all_functions m)
  every_function P means =
      All-append P m.functions (map (λ (p : EntryPoint). p.function) m.entry_points)
      (all-places P m.functions (λ i f at. means (Some i) f (in_numbered i f at)))
      (All-map P (λ (p : EntryPoint). p.function) m.entry_points (all-places (λ (p : EntryPoint). P p.function) m.entry_points (λ k p at. means None p.function (in_start k p at))))

  in_filters : All Passes (all_filter_checks m)
  in_filters = all-left Passes (all_filter_checks m) _ after_special

  filters_back : (i j : ℕ) (node : DiagnosticFilterNode) → slice_get m.diagnostic_filters i ≡ Some node → node.parent ≡ Some j → j < i
  filters_back i j node at e =
      before-filter n i j node.parent e
      (all-unflat Passes (filter_checks n) (enumerate_from 0 m.diagnostic_filters) i (i, node) (enumerated m.diagnostic_filters i node at)
      (all-left Passes (flat_map (filter_checks n) (enumerate_from 0 m.diagnostic_filters)) _ in_filters))

  abbrev leaf : List Reference
  leaf = map to.DiagnosticFilterNode (option_to_list m.diagnostic_filter_leaf)

  documented : All (Exists n) (documented_references m.doc_comments)
  documented = all-exist n (documented_references m.doc_comments) (all-right Passes (all_filter_checks m) _ after_special)

  -- what comments document exists
  commented : All (λ c. MemberExists m.types c.0) m.doc_comments.struct_members → All (Exists n) (comment_references m.doc_comments)
  commented members =
      let d = m.doc_comments in
      subst (All (Exists n)) (members-last d)
      (All-append (Exists n) (documented_references d) _ documented
      (All-map (Exists n) (λ (c : (ℕ × ℕ) × List (List ℕ)). to.Type_ c.0.0) d.struct_members
      (All-weaker (λ (c : (ℕ × ℕ) × List (List ℕ)). MemberExists m.types c.0) (λ c. c.0.0 < length m.types) (λ c h. member-type m.types c.0 h) d.struct_members members)))

  -- what all other items refer to exists
  others : All (λ c. MemberExists m.types c.0) m.doc_comments.struct_members → All (Exists n) (other_references m)
  others members =
      let constants : List Reference = flat_map constant_references m.constants in
      let overrides : List Reference = flat_map override_references m.overrides in
      let variables : List Reference = flat_map global_variable_references m.global_variables in
      let special : List Reference = map to.Type_ (special_types m.special_types) in
      let starts : All (Exists n) (flat_map entry_point_references m.entry_points) =
      all-flat (Exists n) entry_point_references m.entry_points
      (all-places (λ (p : EntryPoint). All (Exists n) (entry_point_references p)) m.entry_points
      (λ k p at. all-exist n (entry_point_references p) (all-right Passes (function_checks (function_counts m p.function) None p.function) _ (at_entry_point k p at)))) in
      All-append (Exists n) variables _ (all-right (Exists n) overrides variables (all-right (Exists n) constants (overrides ++ variables) valued))
      (All-append (Exists n) special _ (all-exist n special (all-left Passes (plain special) _ after_code))
      (All-append (Exists n) (flat_map entry_point_references m.entry_points) _ starts
      (All-append (Exists n) leaf _ (all-exist n leaf (all-right Passes (flat_map (filter_checks n) (enumerate_from 0 m.diagnostic_filters)) _ in_filters))
      (commented members))))

  -- all but types and global expressions are right
  pub others-ok : All (λ c. MemberExists m.types c.0) m.doc_comments.struct_members → All (λ c. c.0 < length m.entry_points) m.doc_comments.entry_points → OtherItemsOk m
  others-ok members entry_points =
      let constants : List Reference = flat_map constant_references m.constants in
      let overrides : List Reference = flat_map override_references m.overrides in
      let variables : List Reference = flat_map global_variable_references m.global_variables in
      let parents : DiagnosticFilterNode → List Reference = λ node. map to.DiagnosticFilterNode (option_to_list node.parent) in record {
        constants = all-left (Exists n) constants (overrides ++ variables) valued;
        overrides = all-left (Exists n) overrides variables (all-right (Exists n) constants (overrides ++ variables) valued);
        filters =
            all-flat (Exists n) parents m.diagnostic_filters
            (all-places (λ (node : DiagnosticFilterNode). All (Exists n) (parents node)) m.diagnostic_filters
            (λ k node at. filter-there n node.parent
            (λ p e.
            let before : p < k = filters_back k p node at e in
            let within : k < length m.diagnostic_filters = slice_get_within m.diagnostic_filters k node at in
            omega (arith, before, within))));
        others = others members;
        in_functions =
            every_function (λ f. All (Exists (function_counts m f)) (function_references f))
            (λ caller f h. All-weaker (PassesIn (function_counts m f) caller) (Exists (function_counts m f)) (λ r s. s.there) (function_references f) h.references);
        documented_members = members;
        documented_entry_points = entry_points;
        operands_back = λ f s t among pair.
            All-contains (λ (g : Function). (s t : Reference) → OrderedOperands g.expressions s t → place_of t < place_of s) (all_functions m) f
            (every_function (λ g. (s t : Reference) → OrderedOperands g.expressions s t → place_of t < place_of s) (λ caller g h. h.back)) among s t pair;
        calls_back = λ i j f at h.
            (All-contains (PassesIn (function_counts m f) (Some i)) (function_references f) (to.Function j) (in_numbered i f at).references h).before i j refl refl;
        filters_back = filters_back;
      }

-- if all checks are accepted, all but types and global expressions are right
pub others-accepted : (m : Module) (r : Result (Unit {0}) ValidationFault) → ChecksEach IsResult (module_checks m) (Ok tt)
    → ChecksEach (IsEntryPointResult m) (map (λ (c : ℕ × List (List ℕ)). c.0) m.doc_comments.entry_points) (Ok tt)
    → ChecksEach (IsMemberResult m) (map (λ (c : (ℕ × ℕ) × List (List ℕ)). c.0) m.doc_comments.struct_members) r → OnOk r (OtherItemsOk m)
others-accepted m (Ok _) items entry_points members =
    others-ok m items.accepted
    (all-unmap (MemberExists m.types) (λ (c : (ℕ × ℕ) × List (List ℕ)). c.0) m.doc_comments.struct_members members.accepted)
    (all-unmap (λ p. p < length m.entry_points) (λ (c : ℕ × List (List ℕ)). c.0) m.doc_comments.entry_points entry_points.accepted)
others-accepted m (Err _) items entry_points members = tt
