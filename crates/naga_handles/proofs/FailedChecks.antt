-- What is wrong if a check is refused.
use Rattle.std.proofs.Common.{◌≡◌, ◌<◌, ◌≤◌, ℕ, List, [], ◌++◌, Option, Some, None, All, Contains, inl, inr, map, refl, slice_get, length, subst, sym, arith, option_to_list}
use Rattle.std.specs.Prelude.{Result, Err, IfErr}
use Rattle.std.specs.List.{enumerate_from, flat_map}
use Rattle.std.proofs.lemmas.List.Elements.{All-append, All-cons, All-contains, All-contains_itself, All-map, All-nil, All-weaker, Contains-append_left, Contains-append_right}
use Rattle.naga_ir.specs.Handles.{Counts, parent_filter, calls_function, function_counts, in_function, module_counts, own_operand}
use Rattle.naga_ir.specs.ItemReferences.{all_functions, body_references, comment_references, constant_references, entry_point_references, function_references, global_variable_references, local_references, named_references, other_references, override_references, signature_references, special_types}
use Rattle.naga_ir.specs.References.{operands}
use Rattle.naga_ir.specs.declared.expression.Expression.{Expression}
use Rattle.naga_ir.specs.declared.ir.DiagnosticFilterNode.{DiagnosticFilterNode}
use Rattle.naga_ir.specs.declared.ir.EntryPoint.{EntryPoint}
use Rattle.naga_ir.specs.declared.ir.Function.{Function}
use Rattle.naga_ir.specs.declared.ir.Module.{Module}
use Rattle.naga_ir.specs.declared.reference.Reference.{Reference}
use Rattle.naga_ir.specs.declared.reference.Reference.TheVariants as to
use Rattle.naga_ir.specs.FirstError.{ChecksEach}
use Rattle.naga_ir.proofs.FirstError.{error-from-checks}
use Rattle.naga_handles.specs.steps.OtherItems.{IsHandleRefusal}
use Rattle.naga_handles.specs.declared.error.ValidationFault.{ValidationFault}
use Rattle.naga_handles.specs.Faults.{IsFault, IsHandleFault, IsNotFunction, PlainReference, forward_in_module, in_entry_point, invalid, missing, missing_member, no_entry_point, not_there, of_constant, of_override, other, plain_references}
use Rattle.naga_handles.specs.Faults as faults
use Rattle.naga_handles.specs.steps.ItemChecks.{IsResult, IsEntryPointResult, IsMemberResult, Check, NoMember, all_filter_checks, code_checks, documented_references, entry_point_checks, expression_checks, filter_checks, function_checks, checks, module_checks, numbered_checks, valued_references}
use Rattle.naga_handles.specs.steps.Checks.{of_expression, of_filter, of_function}
use Rattle.naga_handles.specs.declared.error.InvalidHandleError.{InvalidHandleError}
use Rattle.naga_handles.proofs.AcceptedHandles.{all-plain}
use Rattle.naga_arena.proofs.Elements.{all-left, all-of, all-right, contains-map}
use Rattle.naga_handles.proofs.ListItems.{all-enumerated, all-flat, all-places, all-unflat, contains-at}
use Rattle.naga_handles.proofs.Comments.{members-last}
use Rattle.naga_handles.proofs.CheckLemmas.{check}

-- the error of a refused check is a fault of the module
abbrev pub Refused : Module → Check → Type 0
Refused m l = (e : InvalidHandleError) → IsResult l (Err e) → IsHandleFault m e

-- a check outside the module's functions has no subject
no-subject : (r : Reference) → of_function None r ≡ None
no-subject (to.Type_ t) = refl
no-subject (to.Constant c) = refl
no-subject (to.Override o) = refl
no-subject (to.GlobalVariable v) = refl
no-subject (to.Expression x) = refl
no-subject (to.LocalVariable v) = refl
no-subject (to.Function f) = refl
no-subject (to.DiagnosticFilterNode d) = refl
no-subject (to.Emit range) = refl

-- a reference that need only be there is rightly said to be missing
refused-missing : (m : Module) (n : Counts) (r : Reference) → PlainReference m n r → Refused m (check n (of_function None) r)
refused-missing m n r p = λ e h.
    let a = subst (λ s. IsResult (record { there = n; subject = s; target = r }) (Err e)) (no-subject r) h in
    subst (IsHandleFault m) (sym a.1) (not_there n r p a.0)

-- what doesn't precede an index isn't less than it
not-before : (a b : ℕ) → (a < b → ⊥) → b ≤ a
not-before a b h = omega (arith, h)

-- what need only be there is among all that a function refers to
plain-among : (f : Function) → All (Contains (function_references f)) (plain_references f)
plain-among f = all-plain (Contains (function_references f)) f (All-contains_itself (function_references f))

-- a function of the module names something else than a function that is missing
refused-no_function : (m : Module) (f : Function) (r : Reference) → Contains m.functions f → Contains (plain_references f) r → IsNotFunction r
    → Refused m (check (function_counts m f) (of_function None) r)
refused-no_function m f r among h free = refused-missing m (function_counts m f) r (faults.in_function f r among h free)

-- a function of the module names a function that doesn't come before it, or something that is missing
refused-in_function : (m : Module) (i : ℕ) (f : Function) (r : Reference) → slice_get m.functions i ≡ Some f → Contains m.functions f
    → Contains (plain_references f) r → Refused m (check (function_counts m f) (of_function (Some i)) r)
refused-in_function m i f (to.Function j) at among h =
    let stands = All-contains (Contains (function_references f)) (plain_references f) (to.Function j) (plain-among f) h in
    λ e a. subst (IsHandleFault m) (sym a.1) (forward_in_module (to.Function i) (to.Function j) (calls_function i j f at stands) (not-before j i a.0))
refused-in_function m i f (to.Type_ t) at among h = refused-no_function m f (to.Type_ t) among h tt
refused-in_function m i f (to.Constant c) at among h = refused-no_function m f (to.Constant c) among h tt
refused-in_function m i f (to.Override o) at among h = refused-no_function m f (to.Override o) among h tt
refused-in_function m i f (to.GlobalVariable v) at among h = refused-no_function m f (to.GlobalVariable v) among h tt
refused-in_function m i f (to.Expression x) at among h = refused-no_function m f (to.Expression x) among h tt
refused-in_function m i f (to.LocalVariable v) at among h = refused-no_function m f (to.LocalVariable v) among h tt
refused-in_function m i f (to.DiagnosticFilterNode d) at among h = refused-no_function m f (to.DiagnosticFilterNode d) among h tt
refused-in_function m i f (to.Emit range) at among h = refused-no_function m f (to.Emit range) among h tt

-- an operand that doesn't come before its expression goes forward
refused-operand : (m : Module) (n : Counts) (f : Function) → Contains (all_functions m) f → (e o : ℕ) (x : Expression) → slice_get f.expressions e ≡ Some x → Contains (operands x) o
    → Refused m (check n (of_expression e) (to.Expression o))
refused-operand m n f among e o x at h = λ error a.
    subst (IsHandleFault m) (sym a.1)
    (forward_in_module (to.Expression e) (to.Expression o) (in_function f (to.Expression e) (to.Expression o) among (own_operand e o x at h)) (not-before o e a.0))

-- what holds of the checks of a function's references, and of its operands, holds of all its checks
module _ (P : Check → Type 0) (n : Counts) (caller : Option ℕ) (f : Function) where
  abbrev Given : Reference → Type 0
  Given r = P (check n (of_function caller) r)

  all-expression : (e : ℕ) (x : Expression) → All (λ o. P (check n (of_expression e) (to.Expression o))) (operands x) → All Given (named_references x)
      → All P (expression_checks n caller (e, x))
  all-expression e x ordered named =
      All-append P (checks n (of_expression e) (map to.Expression (operands x))) (checks n (of_function caller) (named_references x))
      (All-map P (check n (of_expression e)) (map to.Expression (operands x)) (All-map (λ r. P (check n (of_expression e) r)) to.Expression (operands x) ordered))
      (All-map P (check n (of_function caller)) (named_references x) named)

  all-function : All Given (plain_references f)
      → ((e o : ℕ) (x : Expression) → slice_get f.expressions e ≡ Some x → Contains (operands x) o → P (check n (of_expression e) (to.Expression o))) → All P (function_checks n caller f)
  all-function given ordered =
      let s = of_function caller in
      let signature = signature_references f in
      let locals = local_references f in
      let named : List Reference = flat_map named_references f.expressions in
      let body = body_references f in
      let after_signature : All Given (locals ++ (named ++ body)) = all-right Given signature _ given in
      let after_locals : All Given (named ++ body) = all-right Given locals _ after_signature in
      let in_named : All Given named = all-left Given named _ after_locals in
      let in_expressions : All P (flat_map (expression_checks n caller) (enumerate_from 0 f.expressions)) =
      all-flat P (expression_checks n caller) (enumerate_from 0 f.expressions)
      (all-enumerated (λ (at : ℕ × Expression). All P (expression_checks n caller at)) f.expressions
      (λ e x at. all-expression e x
      (all-of (λ o. P (check n (of_expression e) (to.Expression o))) (operands x) (λ o h. ordered e o x at h)) (all-unflat Given named_references f.expressions e x at in_named))) in
      All-append P (checks n s signature) _ (All-map P (check n s) signature (all-left Given signature _ given))
      (All-append P (checks n s locals) _ (All-map P (check n s) locals (all-left Given locals _ after_signature))
      (All-append P (flat_map (expression_checks n caller) (enumerate_from 0 f.expressions)) _ in_expressions
      (All-map P (check n s) body (all-right Given named _ after_locals))))

-- each group of the other references is among them
module _ (m : Module) where
  abbrev Other : Reference → Type 0
  Other = Contains (other_references m)

  abbrev variables : List Reference
  variables = flat_map global_variable_references m.global_variables

  abbrev special : List Reference
  special = map to.Type_ (special_types m.special_types)

  abbrev starts : List Reference
  starts = flat_map entry_point_references m.entry_points

  abbrev leaf : List Reference
  leaf = map to.DiagnosticFilterNode (option_to_list m.diagnostic_filter_leaf)

  abbrev members : List Reference
  members = map (λ (c : (ℕ × ℕ) × List (List ℕ)). to.Type_ c.0.0) m.doc_comments.struct_members

  in_variables : All Other variables
  in_variables = all-left Other variables _ (All-contains_itself (other_references m))

  after_variables : All Other (special ++ (starts ++ (leaf ++ comment_references m.doc_comments)))
  after_variables = all-right Other variables _ (All-contains_itself (other_references m))

  in_special_types : All Other special
  in_special_types = all-left Other special _ after_variables

  after_special_types : All Other (starts ++ (leaf ++ comment_references m.doc_comments))
  after_special_types = all-right Other special _ after_variables

  in_entry_points : All Other starts
  in_entry_points = all-left Other starts _ after_special_types

  after_entry_points : All Other (leaf ++ comment_references m.doc_comments)
  after_entry_points = all-right Other starts _ after_special_types

  in_leaf : All Other leaf
  in_leaf = all-left Other leaf _ after_entry_points

  in_comments : All Other (documented_references m.doc_comments ++ members)
  in_comments = subst (All Other) (sym (members-last m.doc_comments)) (all-right Other leaf _ after_entry_points)

  in_documented : All Other (documented_references m.doc_comments)
  in_documented = all-left Other (documented_references m.doc_comments) members in_comments

  in_members : All Other members
  in_members = all-right Other (documented_references m.doc_comments) members in_comments

-- a refused check of another reference is a fault of the module
other-refused : (m : Module) (rs : List Reference) → All (Other m) rs → All (Refused m) (checks (module_counts m) (of_function None) rs)
other-refused m rs all =
    All-map (Refused m) (check (module_counts m) (of_function None)) rs
    (All-weaker (Other m) (λ r. Refused m (check (module_counts m) (of_function None) r)) (λ r h. refused-missing m (module_counts m) r (other r h)) rs all)

-- at constants, overrides and variables
valued-refused : (m : Module) → All (Refused m) (checks (module_counts m) (of_function None) (valued_references m))
valued-refused m =
    let n = module_counts m in
    let given : Reference → Type 0 = λ r. Refused m (check n (of_function None) r) in
    let constants : List Reference = flat_map constant_references m.constants in
    let overrides : List Reference = flat_map override_references m.overrides in
    All-map (Refused m) (check n (of_function None)) (valued_references m)
    (All-append given constants _ (all-of given constants (λ r h. refused-missing m n r (of_constant r h)))
    (All-append given overrides _ (all-of given overrides (λ r h. refused-missing m n r (of_override r h)))
    (All-weaker (Other m) given (λ r h. refused-missing m n r (other r h)) (variables m) (in_variables m))))

-- at an entry point
entry_point-refused : (m : Module) (k : ℕ) (p : EntryPoint) → slice_get m.entry_points k ≡ Some p → All (Refused m) (entry_point_checks m p)
entry_point-refused m k p at =
    let n = function_counts m p.function in
    let among = contains-at m.entry_points k p at in
    let among_all = Contains-append_right m.functions (map (λ (q : EntryPoint). q.function) m.entry_points) p.function (contains-map (λ (q : EntryPoint). q.function) m.entry_points p among) in
    All-append (Refused m) (function_checks n None p.function) (checks (module_counts m) (of_function None) (entry_point_references p))
    (all-function (Refused m) n None p.function
    (all-of (Given (Refused m) n None p.function) (plain_references p.function) (λ r h. refused-missing m n r (in_entry_point p r among h)))
    (refused-operand m n p.function among_all))
    (other-refused m (entry_point_references p) (all-unflat (Other m) entry_point_references m.entry_points k p at (in_entry_points m)))

-- at a function
function-refused : (m : Module) (i : ℕ) (f : Function) → slice_get m.functions i ≡ Some f → All (Refused m) (numbered_checks m (i, f))
function-refused m i f at =
    let n = function_counts m f in
    let among = contains-at m.functions i f at in
    let among_all = Contains-append_left m.functions (map (λ (q : EntryPoint). q.function) m.entry_points) f among in
    all-function (Refused m) n (Some i) f
    (all-of (Given (Refused m) n (Some i) f) (plain_references f) (λ r h. refused-in_function m i f r at among h))
    (refused-operand m n f among_all)

-- at a filter
filter-refused : (m : Module) (d : ℕ) (node : DiagnosticFilterNode) (o : Option ℕ) → slice_get m.diagnostic_filters d ≡ Some node → node.parent ≡ o
    → All (Refused m) (checks (module_counts m) (of_filter d) (map to.DiagnosticFilterNode (option_to_list o)))
filter-refused m d node None at e = All-nil (Refused m)
filter-refused m d node (Some p) at e =
    All-cons (Refused m) (check (module_counts m) (of_filter d) (to.DiagnosticFilterNode p)) []
    (λ error a. subst (IsHandleFault m) (sym a.1) (forward_in_module (to.DiagnosticFilterNode d) (to.DiagnosticFilterNode p) (parent_filter d p node at e) (not-before p d a.0)))
    (All-nil (Refused m))

-- the error of any refused check of a module is a fault of it
pub all-refused : (m : Module) → All (Refused m) (module_checks m)
all-refused m =
    let P = Refused m in
    let n = module_counts m in
    let plain = checks n (of_function None) in
    let entry_points : All P (flat_map (entry_point_checks m) m.entry_points) =
    all-flat P (entry_point_checks m) m.entry_points (all-places (λ (p : EntryPoint). All P (entry_point_checks m p)) m.entry_points (entry_point-refused m)) in
    let numbered : All P (flat_map (numbered_checks m) (enumerate_from 0 m.functions)) =
    all-flat P (numbered_checks m) (enumerate_from 0 m.functions) (all-enumerated (λ (at : ℕ × Function). All P (numbered_checks m at)) m.functions (function-refused m)) in
    let filters : All P (flat_map (filter_checks n) (enumerate_from 0 m.diagnostic_filters)) =
    all-flat P (filter_checks n) (enumerate_from 0 m.diagnostic_filters)
    (all-enumerated (λ (at : ℕ × DiagnosticFilterNode). All P (filter_checks n at)) m.diagnostic_filters (λ k node at. filter-refused m k node node.parent at refl)) in
    All-append P (plain (valued_references m)) _ (valued-refused m)
    (All-append P (code_checks m) _ (All-append P (flat_map (entry_point_checks m) m.entry_points) _ entry_points numbered)
    (All-append P (plain (special m)) _ (other-refused m (special m) (in_special_types m))
    (All-append P (all_filter_checks m) _ (All-append P (flat_map (filter_checks n) (enumerate_from 0 m.diagnostic_filters)) _ filters (other-refused m (leaf m) (in_leaf m)))
    (other-refused m (documented_references m.doc_comments) (in_documented m)))))

-- an error that refuses an item is a fault of the module
pub items-refused : (m : Module) (e : InvalidHandleError) → ChecksEach IsResult (module_checks m) (Err e) → IsHandleFault m e
items-refused m e h = error-from-checks (IsHandleFault m) h (λ l error among a. All-contains (Refused m) (module_checks m) l (all-refused m) among error a)

-- an error that refuses a comment on an entry point is a fault of the module
pub entry_points-refused : (m : Module) (e : InvalidHandleError)
    → ChecksEach (IsEntryPointResult m) (map (λ (c : ℕ × List (List ℕ)). c.0) m.doc_comments.entry_points) (Err e) → IsHandleFault m e
entry_points-refused m e h =
    let given : ℕ → Type 0 = λ place. (error : InvalidHandleError) → IsEntryPointResult m place (Err error) → IsHandleFault m error in
    let comments = m.doc_comments.entry_points in
    let all : All given (map (λ (c : ℕ × List (List ℕ)). c.0) comments) =
    All-map given (λ (c : ℕ × List (List ℕ)). c.0) comments
    (all-of (λ (c : ℕ × List (List ℕ)). given c.0) comments
    (λ c among. λ error a. subst (IsHandleFault m) (sym a.1) (no_entry_point c.0 c.1 among (not-before c.0 (length m.entry_points) a.0)))) in
    error-from-checks (IsHandleFault m) h (λ place error among a. All-contains given (map (λ (c : ℕ × List (List ℕ)). c.0) comments) place all among error a)

-- the refusal of a comment on a member is a fault, or out of memory
member-refused : (m : Module) (c : (ℕ × ℕ) × List (List ℕ)) → Contains m.doc_comments.struct_members c → (fault : ValidationFault) → NoMember m c.0 fault → IsHandleRefusal m fault
member-refused m c among fault (inl (past, e)) =
    let t = to.Type_ c.0.0 in
    let named = All-contains (Other m) (members m) t (in_members m) (contains-map (λ (k : (ℕ × ℕ) × List (List ℕ)). to.Type_ k.0.0) m.doc_comments.struct_members c among) in
    inl (subst (IsFault m) (sym e) (invalid (missing t) (not_there (module_counts m) t (other t named) (λ within. omega (arith, within, past)))))
member-refused m c among fault (inr (x, at, lacks, inl e)) = inr (e, inr (c.0.0, faults.display_name x, missing_member c.0.0 c.0.1 c.1 x among at lacks))
member-refused m c among fault (inr (x, at, lacks, inr e)) = inl (subst (IsFault m) (sym e) (missing_member c.0.0 c.0.1 c.1 x among at lacks))

-- a refusal of the comments on members is a refusal of the module
pub members-refused : (m : Module) (r : Result (Unit {0}) ValidationFault)
    → ChecksEach (IsMemberResult m) (map (λ (c : (ℕ × ℕ) × List (List ℕ)). c.0) m.doc_comments.struct_members) r → IfErr r (IsHandleRefusal m)
members-refused m r h =
    let given : ℕ × ℕ → Type 0 = λ place. (fault : ValidationFault) → NoMember m place fault → IsHandleRefusal m fault in
    let comments = m.doc_comments.struct_members in
    let all : All given (map (λ (c : (ℕ × ℕ) × List (List ℕ)). c.0) comments) =
    All-map given (λ (c : (ℕ × ℕ) × List (List ℕ)). c.0) comments (all-of (λ (c : (ℕ × ℕ) × List (List ℕ)). given c.0) comments (λ c among. member-refused m c among)) in
    error-from-checks (IsHandleRefusal m) h (λ place fault among a. All-contains given (map (λ (c : (ℕ × ℕ) × List (List ℕ)). c.0) comments) place all among fault a)
