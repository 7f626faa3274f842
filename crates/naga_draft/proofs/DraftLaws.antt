-- A module, and one item more.
use Rattle.std.proofs.Common.{◌≡◌, ℕ, ◌<◌, ◌≤◌, List, [], ◌∷◌, ◌++◌, Contains, Option, None, Some, arith, length, refl, sym, ap, ◌∙◌, subst, Bool, true}
use Rattle.naga_arena.specs.Numbers.{largest_u32}
use Rattle.naga_flags.specs.declared.flags.Capabilities.{Capabilities as CapabilitySet}
use Rattle.naga_flags.specs.declared.flags.ValidationFlags.{ValidationFlags}
use Rattle.naga_ir.specs.Distinct.{AllDistinct}
use Rattle.naga_ir.specs.declared.expression.Expression.{Expression as ExpressionType}
use Rattle.naga_ir.specs.declared.ir.Constant.{Constant as ConstantType}
use Rattle.naga_ir.specs.declared.ir.DiagnosticFilterNode.{DiagnosticFilterNode}
use Rattle.naga_ir.specs.declared.ir.DocComments.{DocComments}
use Rattle.naga_ir.specs.declared.ir.EntryPoint.{EntryPoint as EntryPointType}
use Rattle.naga_ir.specs.declared.ir.Function.{Function as FunctionType}
use Rattle.naga_ir.specs.declared.ir.GlobalVariable.{GlobalVariable as GlobalVariableType}
use Rattle.naga_ir.specs.declared.ir.Module.{Module}
use Rattle.naga_ir.specs.declared.ir.Override.{Override as OverrideType}
use Rattle.naga_ir.specs.declared.types.«Type».{«Type»}
use Rattle.naga_draft.specs.Items.{AllSaid, Said, Sections, all_said, functions_in, said_by, sections}
use Rattle.naga_draft.specs.Modules.{AreConsistent, CanBegin, first_of}
use Rattle.naga_draft.specs.declared.draft.Draft.{Draft}
use Rattle.naga_draft.specs.declared.item.Commented.{Commented}
use Rattle.naga_draft.specs.declared.item.Commented.TheVariants as on
use Rattle.naga_draft.specs.declared.item.Item.{Item}
use Rattle.naga_draft.specs.declared.item.Item.TheVariants.{Flags, Capabilities, Resolved, SpecialTypes, PredeclaredType, Filter, FilterLeaf, Comment, Type_, Constant, Override, GlobalVariable, Expression}
use Rattle.naga_draft.specs.Drafts.{AreAdded, AreSections, IsSaid, drafted, with_comment}
use Rattle.naga_ir.proofs.ListLaws.{distinct_once, distinct_push, pick_front, pick_too_many, with_option}
use Rattle.naga_draft.proofs.SaidLaws.{alone_after, first_after, fits_after, items_more, some_first, with_item}
use Rattle.naga_draft.proofs.SectionLaws.{sections_same}

-- items are consistent if what they say is
are_consistent : (s : AllSaid) → length s.flags ≤ 1 → length s.capabilities ≤ 1 → length s.resolved ≤ 1 → length s.special_types ≤ 1 → length s.filter_leaves ≤ 1 → AllDistinct s.types
    → length s.types ≤ largest_u32 → length s.constants ≤ largest_u32 → length s.overrides ≤ largest_u32 → length s.global_variables ≤ largest_u32 → length s.expressions ≤ largest_u32
    → length s.filters ≤ largest_u32 → AreConsistent s
are_consistent s flags capabilities resolved special leaves types few_types constants overrides variables expressions filters = record {
  flags = flags;
  capabilities = capabilities;
  resolved = resolved;
  special_types = special;
  filter_leaves = leaves;
  types = types;
  room_for_types = few_types;
  room_for_constants = constants;
  room_for_overrides = overrides;
  room_for_variables = variables;
  room_for_expressions = expressions;
  room_for_filters = filters;
}

-- an item says nothing of the settings or of the special types that are set once
abbrev SaysNoSetting : Said → Type 0
SaysNoSetting said = (said.flags ≡ None) × (said.capabilities ≡ None) × (said.resolved ≡ None) × (said.special_types ≡ None)

module _ (items : List Item) (old : Draft) (h : AreAdded items old) where
  abbrev s : AllSaid
  s = all_said items

  abbrev c : AreConsistent s
  c = h.said.consistent

  abbrev F : List FunctionType
  F = old.«module».functions

  abbrev E : List EntryPointType
  E = old.«module».entry_points

  -- items and one that is no part and no head were added if what they say was
  more : (x : Item) (new : Draft) → sections (x ∷ []) ≡ ([], []) → IsSaid (with_item s (said_by x)) new → new.«module».functions ≡ F → new.«module».entry_points ≡ E → new.current ≡ old.current → AreAdded (items ++ x ∷ []) new
  more x new alone said f e o =
      let same : sections (items ++ x ∷ []) ≡ sections items = sections_same items x alone in record {
        said = subst (λ s. IsSaid s new) (sym (items_more items x)) said;
        room_for_functions = subst (λ (all : Sections). length (functions_in all.1) ≤ largest_u32) (sym same) h.room_for_functions;
        sections_are = subst (λ (all : Sections). AreSections all new.«module».functions new.«module».entry_points new.current) (sym same)
            (subst (λ fs. AreSections (sections items) fs new.«module».entry_points new.current) (sym f)
            (subst (λ es. AreSections (sections items) F es new.current) (sym e)
            (subst (λ o. AreSections (sections items) F E o) (sym o) h.sections_are)));
      }

  -- items and one that says something of the module only were added if the module has it
  in_module : (x : Item) (m : Module) → sections (x ∷ []) ≡ ([], []) → SaysNoSetting (said_by x) → AreConsistent (with_item s (said_by x))
      → m ≡ drafted (with_item s (said_by x)) m.functions m.entry_points → m.functions ≡ F → m.entry_points ≡ E → AreAdded (items ++ x ∷ []) (record old { «module» = m })
  in_module x m alone none consistent module_is f e =
      more x (record old { «module» = m }) alone (record {
        consistent = consistent;
        module_is = module_is;
        flags_are = h.said.flags_are ∙ ap (λ (o : Option ValidationFlags). first_of (with_option s.flags o)) (sym none.0);
        capabilities_are = h.said.capabilities_are ∙ ap (λ (o : Option CapabilitySet). first_of (with_option s.capabilities o)) (sym none.1);
        resolved_is = h.said.resolved_is ∙ ap (λ (o : Option Bool). first_of (with_option s.resolved o)) (sym none.2);
        special_types_are = h.said.special_types_are ∙ ap (λ (o : Option (Option ℕ × Option ℕ × Option ℕ)). first_of (with_option s.special_types o)) (sym none.3);
      }) f e refl

  pub flags_added : (a : ValidationFlags) (value : Option ValidationFlags) → old.flags ≡ None → value ≡ Some a → AreAdded (items ++ Flags a ∷ []) (record old { flags = value })
  flags_added a value none v =
      let empty : first_of s.flags ≡ None = sym h.said.flags_are ∙ none in
      more (Flags a) _ refl (record {
        consistent = are_consistent _ (alone_after s.flags a empty) c.capabilities c.resolved c.special_types c.filter_leaves c.types c.room_for_types c.room_for_constants c.room_for_overrides c.room_for_variables c.room_for_expressions c.room_for_filters;
        module_is = h.said.module_is;
        flags_are = v ∙ sym (first_after s.flags a empty);
        capabilities_are = h.said.capabilities_are;
        resolved_is = h.said.resolved_is;
        special_types_are = h.said.special_types_are;
      }) refl refl refl

  pub capabilities_added : (a : CapabilitySet) (value : Option CapabilitySet) → old.capabilities ≡ None → value ≡ Some a → AreAdded (items ++ Capabilities a ∷ []) (record old { capabilities = value })
  capabilities_added a value none v =
      let empty : first_of s.capabilities ≡ None = sym h.said.capabilities_are ∙ none in
      more (Capabilities a) _ refl (record {
        consistent = are_consistent _ c.flags (alone_after s.capabilities a empty) c.resolved c.special_types c.filter_leaves c.types c.room_for_types c.room_for_constants c.room_for_overrides c.room_for_variables c.room_for_expressions c.room_for_filters;
        module_is = h.said.module_is;
        flags_are = h.said.flags_are;
        capabilities_are = v ∙ sym (first_after s.capabilities a empty);
        resolved_is = h.said.resolved_is;
        special_types_are = h.said.special_types_are;
      }) refl refl refl

  pub resolved_added : (value : Option Bool) → old.resolved ≡ None → value ≡ Some true → AreAdded (items ++ Resolved ∷ []) (record old { resolved = value })
  resolved_added value none v =
      let empty : first_of s.resolved ≡ None = sym h.said.resolved_is ∙ none in
      more Resolved _ refl (record {
        consistent = are_consistent _ c.flags c.capabilities (alone_after s.resolved true empty) c.special_types c.filter_leaves c.types c.room_for_types c.room_for_constants c.room_for_overrides c.room_for_variables c.room_for_expressions c.room_for_filters;
        module_is = h.said.module_is;
        flags_are = h.said.flags_are;
        capabilities_are = h.said.capabilities_are;
        resolved_is = v ∙ sym (first_after s.resolved true empty);
        special_types_are = h.said.special_types_are;
      }) refl refl refl

  pub special_types_added : (a b d : Option ℕ) (value : Option (Option ℕ × Option ℕ × Option ℕ)) → old.special_types ≡ None → value ≡ Some (a, b, d) → AreAdded (items ++ SpecialTypes a b d ∷ []) (record old { special_types = value })
  special_types_added a b d value none v =
      let empty : first_of s.special_types ≡ None = sym h.said.special_types_are ∙ none in
      more (SpecialTypes a b d) _ refl (record {
        consistent = are_consistent _ c.flags c.capabilities c.resolved (alone_after s.special_types (a, b, d) empty) c.filter_leaves c.types c.room_for_types c.room_for_constants c.room_for_overrides c.room_for_variables c.room_for_expressions c.room_for_filters;
        module_is = h.said.module_is;
        flags_are = h.said.flags_are;
        capabilities_are = h.said.capabilities_are;
        resolved_is = h.said.resolved_is;
        special_types_are = v ∙ sym (first_after s.special_types (a, b, d) empty);
      }) refl refl refl

  pub leaf_added : (a : ℕ) (value : Option ℕ) → old.«module».diagnostic_filter_leaf ≡ None → value ≡ Some a
      → AreAdded (items ++ FilterLeaf a ∷ []) (record old { «module» = record (old.«module») { diagnostic_filter_leaf = value } })
  leaf_added a value none v =
      let empty : first_of s.filter_leaves ≡ None = sym (ap (λ (m : Module). m.diagnostic_filter_leaf) h.said.module_is) ∙ none in
      in_module (FilterLeaf a) _ refl (refl, refl, refl, refl) (are_consistent _ c.flags c.capabilities c.resolved c.special_types (alone_after s.filter_leaves a empty) c.types c.room_for_types c.room_for_constants c.room_for_overrides c.room_for_variables c.room_for_expressions c.room_for_filters)
      (ap (λ (o : Option ℕ). record (old.«module») { diagnostic_filter_leaf = o }) (v ∙ sym (first_after s.filter_leaves a empty))
      ∙ ap (λ (m : Module). record m { diagnostic_filter_leaf = first_of (s.filter_leaves ++ a ∷ []); functions = F; entry_points = E }) h.said.module_is) refl refl

  pub filter_added : (a : DiagnosticFilterNode) (xs : List DiagnosticFilterNode) → xs ≡ old.«module».diagnostic_filters ++ a ∷ [] → length old.«module».diagnostic_filters < largest_u32
      → AreAdded (items ++ Filter a ∷ []) (record old { «module» = record (old.«module») { diagnostic_filters = xs } })
  filter_added a xs e room =
      let same : length old.«module».diagnostic_filters ≡ length s.filters = ap (λ (m : Module). length m.diagnostic_filters) h.said.module_is in
      in_module (Filter a) _ refl (refl, refl, refl, refl) (are_consistent _ c.flags c.capabilities c.resolved c.special_types c.filter_leaves c.types c.room_for_types c.room_for_constants c.room_for_overrides c.room_for_variables c.room_for_expressions (fits_after s.filters a largest_u32 (omega (arith, room, same))))
      (ap (λ (xs : List DiagnosticFilterNode). record (old.«module») { diagnostic_filters = xs }) e
      ∙ ap (λ (m : Module). record m { diagnostic_filters = m.diagnostic_filters ++ a ∷ []; functions = F; entry_points = E }) h.said.module_is) refl refl

  pub constant_added : (a : ConstantType) (xs : List ConstantType) → xs ≡ old.«module».constants ++ a ∷ [] → length old.«module».constants < largest_u32
      → AreAdded (items ++ Constant a ∷ []) (record old { «module» = record (old.«module») { constants = xs } })
  constant_added a xs e room =
      let same : length old.«module».constants ≡ length s.constants = ap (λ (m : Module). length m.constants) h.said.module_is in
      in_module (Constant a) _ refl (refl, refl, refl, refl) (are_consistent _ c.flags c.capabilities c.resolved c.special_types c.filter_leaves c.types c.room_for_types (fits_after s.constants a largest_u32 (omega (arith, room, same))) c.room_for_overrides c.room_for_variables c.room_for_expressions c.room_for_filters)
      (ap (λ (xs : List ConstantType). record (old.«module») { constants = xs }) e
      ∙ ap (λ (m : Module). record m { constants = m.constants ++ a ∷ []; functions = F; entry_points = E }) h.said.module_is) refl refl

  pub override_added : (a : OverrideType) (xs : List OverrideType) → xs ≡ old.«module».overrides ++ a ∷ [] → length old.«module».overrides < largest_u32
      → AreAdded (items ++ Override a ∷ []) (record old { «module» = record (old.«module») { overrides = xs } })
  override_added a xs e room =
      let same : length old.«module».overrides ≡ length s.overrides = ap (λ (m : Module). length m.overrides) h.said.module_is in
      in_module (Override a) _ refl (refl, refl, refl, refl) (are_consistent _ c.flags c.capabilities c.resolved c.special_types c.filter_leaves c.types c.room_for_types c.room_for_constants (fits_after s.overrides a largest_u32 (omega (arith, room, same))) c.room_for_variables c.room_for_expressions c.room_for_filters)
      (ap (λ (xs : List OverrideType). record (old.«module») { overrides = xs }) e
      ∙ ap (λ (m : Module). record m { overrides = m.overrides ++ a ∷ []; functions = F; entry_points = E }) h.said.module_is) refl refl

  pub variable_added : (a : GlobalVariableType) (xs : List GlobalVariableType) → xs ≡ old.«module».global_variables ++ a ∷ [] → length old.«module».global_variables < largest_u32
      → AreAdded (items ++ GlobalVariable a ∷ []) (record old { «module» = record (old.«module») { global_variables = xs } })
  variable_added a xs e room =
      let same : length old.«module».global_variables ≡ length s.global_variables = ap (λ (m : Module). length m.global_variables) h.said.module_is in
      in_module (GlobalVariable a) _ refl (refl, refl, refl, refl) (are_consistent _ c.flags c.capabilities c.resolved c.special_types c.filter_leaves c.types c.room_for_types c.room_for_constants c.room_for_overrides (fits_after s.global_variables a largest_u32 (omega (arith, room, same))) c.room_for_expressions c.room_for_filters)
      (ap (λ (xs : List GlobalVariableType). record (old.«module») { global_variables = xs }) e
      ∙ ap (λ (m : Module). record m { global_variables = m.global_variables ++ a ∷ []; functions = F; entry_points = E }) h.said.module_is) refl refl

  pub expression_added : (a : ExpressionType) (xs : List ExpressionType) → xs ≡ old.«module».global_expressions ++ a ∷ [] → length old.«module».global_expressions < largest_u32
      → AreAdded (items ++ Expression a ∷ []) (record old { «module» = record (old.«module») { global_expressions = xs } })
  expression_added a xs e room =
      let same : length old.«module».global_expressions ≡ length s.expressions = ap (λ (m : Module). length m.global_expressions) h.said.module_is in
      in_module (Expression a) _ refl (refl, refl, refl, refl) (are_consistent _ c.flags c.capabilities c.resolved c.special_types c.filter_leaves c.types c.room_for_types c.room_for_constants c.room_for_overrides c.room_for_variables (fits_after s.expressions a largest_u32 (omega (arith, room, same))) c.room_for_filters)
      (ap (λ (xs : List ExpressionType). record (old.«module») { global_expressions = xs }) e
      ∙ ap (λ (m : Module). record m { global_expressions = m.global_expressions ++ a ∷ []; functions = F; entry_points = E }) h.said.module_is) refl refl

  pub type_added : (a : «Type») (xs : List «Type») → xs ≡ old.«module».types ++ a ∷ [] → ¬ (Contains old.«module».types a) → length old.«module».types < largest_u32
      → AreAdded (items ++ Type_ a ∷ []) (record old { «module» = record (old.«module») { types = xs } })
  type_added a xs e different room =
      let same : old.«module».types ≡ s.types = ap (λ (m : Module). m.types) h.said.module_is in
      let few = ap length same in
      in_module (Type_ a) _ refl (refl, refl, refl, refl) (are_consistent _ c.flags c.capabilities c.resolved c.special_types c.filter_leaves (distinct_push s.types a c.types (subst (λ ts. ¬ (Contains ts a)) same different)) (fits_after s.types a largest_u32 (omega (arith, room, few))) c.room_for_constants c.room_for_overrides c.room_for_variables c.room_for_expressions c.room_for_filters)
      (ap (λ (xs : List «Type»). record (old.«module») { types = xs }) e
      ∙ ap (λ (m : Module). record m { types = m.types ++ a ∷ []; functions = F; entry_points = E }) h.said.module_is) refl refl

  pub predeclared_added : (a : ℕ) (xs : List ℕ) → xs ≡ old.«module».special_types.others ++ a ∷ []
      → AreAdded (items ++ PredeclaredType a ∷ []) (record old { «module» = record (old.«module») { special_types = record (old.«module».special_types) { others = xs } } })
  predeclared_added a xs e =
      in_module (PredeclaredType a) _ refl (refl, refl, refl, refl) (are_consistent _ c.flags c.capabilities c.resolved c.special_types c.filter_leaves c.types c.room_for_types c.room_for_constants c.room_for_overrides c.room_for_variables c.room_for_expressions c.room_for_filters)
      (ap (λ (xs : List ℕ). record (old.«module») { special_types = record (old.«module».special_types) { others = xs } }) e
      ∙ ap (λ (m : Module). record m { special_types = record (m.special_types) { others = m.special_types.others ++ a ∷ [] }; functions = F; entry_points = E }) h.said.module_is) refl refl

  -- a comment was added
  pub comment_added : (commented : Commented) (comments : DocComments) → comments ≡ with_comment commented old.«module».doc_comments
      → AreAdded (items ++ Comment commented ∷ []) (record old { «module» = record (old.«module») { doc_comments = comments } })
  comment_added (on.Type_ a) comments e =
      in_module (Comment (on.Type_ a)) _ refl (refl, refl, refl, refl) (are_consistent _ c.flags c.capabilities c.resolved c.special_types c.filter_leaves c.types c.room_for_types c.room_for_constants c.room_for_overrides c.room_for_variables c.room_for_expressions c.room_for_filters)
      (ap (λ (d : DocComments). record (old.«module») { doc_comments = d }) e
      ∙ ap (λ (m : Module). record m { doc_comments = with_comment (on.Type_ a) m.doc_comments; functions = F; entry_points = E }) h.said.module_is) refl refl
  comment_added (on.Member a b) comments e =
      in_module (Comment (on.Member a b)) _ refl (refl, refl, refl, refl) (are_consistent _ c.flags c.capabilities c.resolved c.special_types c.filter_leaves c.types c.room_for_types c.room_for_constants c.room_for_overrides c.room_for_variables c.room_for_expressions c.room_for_filters)
      (ap (λ (d : DocComments). record (old.«module») { doc_comments = d }) e
      ∙ ap (λ (m : Module). record m { doc_comments = with_comment (on.Member a b) m.doc_comments; functions = F; entry_points = E }) h.said.module_is) refl refl
  comment_added (on.Function a) comments e =
      in_module (Comment (on.Function a)) _ refl (refl, refl, refl, refl) (are_consistent _ c.flags c.capabilities c.resolved c.special_types c.filter_leaves c.types c.room_for_types c.room_for_constants c.room_for_overrides c.room_for_variables c.room_for_expressions c.room_for_filters)
      (ap (λ (d : DocComments). record (old.«module») { doc_comments = d }) e
      ∙ ap (λ (m : Module). record m { doc_comments = with_comment (on.Function a) m.doc_comments; functions = F; entry_points = E }) h.said.module_is) refl refl
  comment_added (on.EntryPoint a) comments e =
      in_module (Comment (on.EntryPoint a)) _ refl (refl, refl, refl, refl) (are_consistent _ c.flags c.capabilities c.resolved c.special_types c.filter_leaves c.types c.room_for_types c.room_for_constants c.room_for_overrides c.room_for_variables c.room_for_expressions c.room_for_filters)
      (ap (λ (d : DocComments). record (old.«module») { doc_comments = d }) e
      ∙ ap (λ (m : Module). record m { doc_comments = with_comment (on.EntryPoint a) m.doc_comments; functions = F; entry_points = E }) h.said.module_is) refl refl
  comment_added (on.Constant a) comments e =
      in_module (Comment (on.Constant a)) _ refl (refl, refl, refl, refl) (are_consistent _ c.flags c.capabilities c.resolved c.special_types c.filter_leaves c.types c.room_for_types c.room_for_constants c.room_for_overrides c.room_for_variables c.room_for_expressions c.room_for_filters)
      (ap (λ (d : DocComments). record (old.«module») { doc_comments = d }) e
      ∙ ap (λ (m : Module). record m { doc_comments = with_comment (on.Constant a) m.doc_comments; functions = F; entry_points = E }) h.said.module_is) refl refl
  comment_added (on.GlobalVariable a) comments e =
      in_module (Comment (on.GlobalVariable a)) _ refl (refl, refl, refl, refl) (are_consistent _ c.flags c.capabilities c.resolved c.special_types c.filter_leaves c.types c.room_for_types c.room_for_constants c.room_for_overrides c.room_for_variables c.room_for_expressions c.room_for_filters)
      (ap (λ (d : DocComments). record (old.«module») { doc_comments = d }) e
      ∙ ap (λ (m : Module). record m { doc_comments = with_comment (on.GlobalVariable a) m.doc_comments; functions = F; entry_points = E }) h.said.module_is) refl refl

  pub flags_refused : (a : ValidationFlags) → ¬ (old.flags ≡ None) → ¬ (CanBegin (items ++ Flags a ∷ []))
  flags_refused a set begins =
      pick_too_many (λ x. (said_by x).flags) 1 items (Flags a) begins.0 a refl (some_first s.flags (λ none. set (h.said.flags_are ∙ none))) begins.2.consistent.flags

  pub capabilities_refused : (a : CapabilitySet) → ¬ (old.capabilities ≡ None) → ¬ (CanBegin (items ++ Capabilities a ∷ []))
  capabilities_refused a set begins =
      pick_too_many (λ x. (said_by x).capabilities) 1 items (Capabilities a) begins.0 a refl (some_first s.capabilities (λ none. set (h.said.capabilities_are ∙ none))) begins.2.consistent.capabilities

  pub resolved_refused : ¬ (old.resolved ≡ None) → ¬ (CanBegin (items ++ Resolved ∷ []))
  resolved_refused set begins =
      pick_too_many (λ x. (said_by x).resolved) 1 items (Resolved) begins.0 true refl (some_first s.resolved (λ none. set (h.said.resolved_is ∙ none))) begins.2.consistent.resolved

  pub special_types_refused : (a b d : Option ℕ) → ¬ (old.special_types ≡ None) → ¬ (CanBegin (items ++ SpecialTypes a b d ∷ []))
  special_types_refused a b d set begins =
      pick_too_many (λ x. (said_by x).special_types) 1 items (SpecialTypes a b d) begins.0 (a, b, d) refl (some_first s.special_types (λ none. set (h.said.special_types_are ∙ none))) begins.2.consistent.special_types

  pub leaf_refused : (a : ℕ) → ¬ (old.«module».diagnostic_filter_leaf ≡ None) → ¬ (CanBegin (items ++ FilterLeaf a ∷ []))
  leaf_refused a set begins =
      pick_too_many (λ x. (said_by x).filter_leaf) 1 items (FilterLeaf a) begins.0 a refl (some_first s.filter_leaves (λ none. set (ap (λ (m : Module). m.diagnostic_filter_leaf) h.said.module_is ∙ none))) begins.2.consistent.filter_leaves

  pub filter_refused : (a : DiagnosticFilterNode) → largest_u32 ≤ length old.«module».diagnostic_filters → ¬ (CanBegin (items ++ Filter a ∷ []))
  filter_refused a full begins =
      let same : length old.«module».diagnostic_filters ≡ length s.filters = ap (λ (m : Module). length m.diagnostic_filters) h.said.module_is in
      pick_too_many (λ x. (said_by x).filter) largest_u32 items (Filter a) begins.0 a refl (omega (arith, full, same)) begins.2.consistent.room_for_filters

  pub constant_refused : (a : ConstantType) → largest_u32 ≤ length old.«module».constants → ¬ (CanBegin (items ++ Constant a ∷ []))
  constant_refused a full begins =
      let same : length old.«module».constants ≡ length s.constants = ap (λ (m : Module). length m.constants) h.said.module_is in
      pick_too_many (λ x. (said_by x).constant) largest_u32 items (Constant a) begins.0 a refl (omega (arith, full, same)) begins.2.consistent.room_for_constants

  pub override_refused : (a : OverrideType) → largest_u32 ≤ length old.«module».overrides → ¬ (CanBegin (items ++ Override a ∷ []))
  override_refused a full begins =
      let same : length old.«module».overrides ≡ length s.overrides = ap (λ (m : Module). length m.overrides) h.said.module_is in
      pick_too_many (λ x. (said_by x).id) largest_u32 items (Override a) begins.0 a refl (omega (arith, full, same)) begins.2.consistent.room_for_overrides

  pub variable_refused : (a : GlobalVariableType) → largest_u32 ≤ length old.«module».global_variables → ¬ (CanBegin (items ++ GlobalVariable a ∷ []))
  variable_refused a full begins =
      let same : length old.«module».global_variables ≡ length s.global_variables = ap (λ (m : Module). length m.global_variables) h.said.module_is in
      pick_too_many (λ x. (said_by x).global_variable) largest_u32 items (GlobalVariable a) begins.0 a refl (omega (arith, full, same)) begins.2.consistent.room_for_variables

  pub expression_refused : (a : ExpressionType) → largest_u32 ≤ length old.«module».global_expressions → ¬ (CanBegin (items ++ Expression a ∷ []))
  expression_refused a full begins =
      let same : length old.«module».global_expressions ≡ length s.expressions = ap (λ (m : Module). length m.global_expressions) h.said.module_is in
      pick_too_many (λ x. (said_by x).expression) largest_u32 items (Expression a) begins.0 a refl (omega (arith, full, same)) begins.2.consistent.room_for_expressions

  pub type_refused : (a : «Type») → (¬ (Contains old.«module».types a) → largest_u32 ≤ length old.«module».types) → ¬ (CanBegin (items ++ Type_ a ∷ []))
  type_refused a why begins =
      let same : old.«module».types ≡ s.types = ap (λ (m : Module). m.types) h.said.module_is in
      let all : AllDistinct (s.types ++ a ∷ (all_said begins.0).types) = subst AllDistinct (pick_front (λ x. (said_by x).type) items (Type_ a) begins.0 a refl) begins.2.consistent.types in
      let full = why (λ present. distinct_once s.types (all_said begins.0).types a (subst (λ ts. Contains ts a) same present) all) in
      let long = ap length same in
      pick_too_many (λ x. (said_by x).type) largest_u32 items (Type_ a) begins.0 a refl (omega (arith, full, long)) begins.2.consistent.room_for_types

-- what was added is the item that it is
pub as_item : (items : List Item) (x y : Item) (new : Draft) → x ≡ y → AreAdded (items ++ y ∷ []) new → AreAdded (items ++ x ∷ []) new
as_item items x y new is h = subst (λ x. AreAdded (items ++ x ∷ []) new) (sym is) h

-- what can't be added is the item that it is
pub not_item : (items : List Item) (x y : Item) → x ≡ y → ¬ (CanBegin (items ++ y ∷ [])) → ¬ (CanBegin (items ++ x ∷ []))
not_item items x y is h = subst (λ x. ¬ (CanBegin (items ++ x ∷ []))) (sym is) h
