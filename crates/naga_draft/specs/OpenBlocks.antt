-- A body while its last blocks are open.
use Rattle.std.specs.Prelude.{◌≡◌, ℕ, ◌+◌, ◌≤◌, max, Bool, true, false, ◌&&◌, nat_lt, List, [], ◌∷◌, ◌++◌, length, map, reverse, Option, None, Some, option_map, if◌then◌else◌}
use Rattle.std.specs.List.{flat_map}
use Rattle.naga_ir.specs.declared.statement.Block.{Block}
use Rattle.naga_ir.specs.declared.statement.Statement.{Statement}
use Rattle.naga_ir.specs.declared.statement.Statement.TheViews.{out-Block}
use Rattle.naga_ir.specs.declared.statement.SwitchCase.{SwitchCase}
use Rattle.naga_draft.specs.Bodies.{Marks, depth, greatest, marks_of_block, most_open}
use Rattle.naga_draft.specs.BodyParts.{depth_of_case, depth_of_statement, marks_of_case, marks_of_statement}
use Rattle.naga_draft.specs.declared.blocks.OpenBlocks.{OpenBlocks}
use Rattle.naga_draft.specs.declared.blocks.Opener.{Opener}
use Rattle.naga_draft.specs.declared.blocks.Opener.TheVariants as opener
use Rattle.naga_draft.specs.declared.blocks.OuterBlock.{OuterBlock}
use Rattle.naga_draft.specs.declared.item.CaseHead.{CaseHead}
use Rattle.naga_draft.specs.declared.item.Mark.{Mark}
use Rattle.naga_draft.specs.declared.item.Mark.TheVariants as mark

-- which block of a statement is open
pub data Kind : Type 0 where
  in_block in_accept in_reject in_switch in_case in_body in_continuing : Kind

-- which block of its statement an opener opened
abbrev pub kind_of : Opener → Kind
kind_of opener.Block = in_block
kind_of (opener.Accept condition) = in_accept
kind_of (opener.Reject condition accept) = in_reject
kind_of (opener.Switch selector) = in_switch
kind_of (opener.Case selector cases head) = in_case
kind_of opener.Body = in_body
kind_of (opener.Continuing body) = in_continuing

-- statements can stand in a block of this kind: in all but a switch before its first case
abbrev pub has_statements : Kind → Bool
has_statements in_switch = false
has_statements _ = true

-- statements can stand in the innermost of the blocks `ks` that are open, innermost first, or in the body if none is
abbrev pub takes : List Kind → Bool
takes [] = true
takes (k ∷ ks) = has_statements k

-- a block can be opened within the blocks `ks`
abbrev pub has_room : List Kind → Bool
has_room ks = takes ks && nat_lt (length ks) most_open

-- the blocks `ks` and a block `k` in them, if it can be opened
abbrev pub opened : Kind → List Kind → Option (List Kind)
opened k ks = if has_room ks then Some (k ∷ ks) else None

-- the block that `else` opens in place of one
abbrev pub to_reject : Kind → Option Kind
to_reject in_accept = Some in_reject
to_reject _ = None

-- the block that a case opens in place of one
abbrev pub to_case : Kind → Option Kind
to_case in_switch = Some in_case
to_case in_case = Some in_case
to_case _ = None

-- the block that `continuing` opens in place of one
abbrev pub to_continuing : Kind → Option Kind
to_continuing in_body = Some in_continuing
to_continuing _ = None

-- the open blocks with another in place of the innermost, which `next` gives if there can be one
abbrev pub replaced : (Kind → Option Kind) → List Kind → Option (List Kind)
replaced next [] = None
replaced next (k ∷ ks) = option_map (λ j. j ∷ ks) (next k)

-- `end` ends a block of this kind
abbrev pub ends : Kind → Bool
ends in_block = true
ends in_reject = true
ends in_switch = true
ends in_case = true
ends in_accept = false
ends in_body = false
ends in_continuing = false

-- the end of a loop ends a block of this kind
abbrev pub ends_loop : Kind → Bool
ends_loop in_continuing = true
ends_loop _ = false

-- the open blocks without the innermost, if it can end by `can_end`
abbrev pub ended : (Kind → Bool) → List Kind → Option (List Kind)
ended can_end [] = None
ended can_end (k ∷ ks) = if can_end k then Some ks else None

-- the blocks that are open after a mark within the blocks `ks`, if it can stand there
abbrev pub step : List Kind → Mark → Option (List Kind)
step ks (mark.Statement s) = if takes ks then Some ks else None
step ks mark.Block = opened in_block ks
step ks (mark.If condition) = opened in_accept ks
step ks mark.Else = replaced to_reject ks
step ks (mark.Switch selector) = opened in_switch ks
step ks (mark.Case head) = replaced to_case ks
step ks mark.Loop = opened in_body ks
step ks mark.Continuing = replaced to_continuing ks
step ks mark.End = ended ends ks
step ks (mark.EndOfLoop break_if) = ended ends_loop ks

-- the marks of a statement up to where its last block opens, by the opener of that block
abbrev pub opener_marks : Opener → Marks
opener_marks opener.Block = mark.Block ∷ []
opener_marks (opener.Accept condition) = mark.If condition ∷ []
opener_marks (opener.Reject condition accept) = mark.If condition ∷ (marks_of_block accept ++ mark.Else ∷ [])
opener_marks (opener.Switch selector) = mark.Switch selector ∷ []
opener_marks (opener.Case selector cases head) =
    mark.Switch selector ∷ (flat_map marks_of_case cases.items ++ mark.Case head ∷ [])
opener_marks opener.Body = mark.Loop ∷ []
opener_marks (opener.Continuing body) = mark.Loop ∷ (marks_of_block body ++ mark.Continuing ∷ [])

-- how many blocks are open at a time in the blocks of a statement before its last one, by the opener of that block
abbrev pub opener_depth : Opener → ℕ
opener_depth opener.Block = 0
opener_depth (opener.Accept condition) = 0
opener_depth (opener.Reject condition accept) = depth accept
opener_depth (opener.Switch selector) = 0
opener_depth (opener.Case selector cases head) = greatest (map depth_of_case cases.items)
opener_depth opener.Body = 0
opener_depth (opener.Continuing body) = depth body

-- which blocks are open within the blocks `outer`, innermost first
abbrev pub kinds : List OuterBlock → List Kind
kinds outer = map (λ o. kind_of o.opener) outer

-- the marks before the innermost block, by the blocks around it, innermost first
abbrev pub marks_around : List OuterBlock → Marks
marks_around [] = []
marks_around (o ∷ outer) = marks_around outer ++ (marks_of_block o.block ++ opener_marks o.opener)

-- the blocks around the innermost, innermost first: no more blocks are open in them at a time than may be, and each is
-- one in which statements can stand
abbrev pub AreSound : List OuterBlock → Type 0
AreSound [] = Unit {0}
AreSound (o ∷ outer) =
    (depth o.block + length outer ≤ most_open) × (opener_depth o.opener + length outer + 1 ≤ most_open)
    × (takes (kinds outer) ≡ true) × AreSound outer

-- `marks` are read: they say the blocks `outer` around the innermost, innermost first, and the innermost, `block`. No
-- more blocks are open at a time than may be, and a switch has no statement before its first case
pub record IsRead (marks : Marks) (outer : List OuterBlock) (block : Block) : Type 0 where
  pub said : marks ≡ marks_around outer ++ marks_of_block block
  pub shallow : depth block + length outer ≤ most_open
  pub empty : takes (kinds outer) ≡ false → (out-Block block).body.items ≡ []
  pub around : AreSound outer

-- the blocks around the innermost block that is open, innermost first
abbrev pub outer_of : OpenBlocks → List OuterBlock
outer_of blocks = reverse blocks.outer.items

-- `marks` are all marks that were added, and `blocks` are what they say
abbrev pub AreRead : Marks → OpenBlocks → Type 0
AreRead marks blocks = IsRead marks (outer_of blocks) blocks.block

-- `new` is what is read after the mark `m` if `old` is before it
abbrev pub Adds : Mark → OpenBlocks → OpenBlocks → Type 0
Adds m old new = (marks : Marks) → AreRead marks old → AreRead (marks ++ m ∷ []) new

-- the mark `m` can't stand after what is read as `blocks`
abbrev pub Refuses : Mark → OpenBlocks → Type 0
Refuses m blocks = step (kinds (outer_of blocks)) m ≡ None

-- `new` is `old` with one more block open, which `p` opened
abbrev pub Opens : Opener → OpenBlocks → OpenBlocks → Type 0
Opens p old new =
    (new.outer.items ≡ old.outer.items ++ record { block = old.block; opener = p } ∷ [])
    × ((out-Block new.block).body.items ≡ [])

-- `new` is `old` without its innermost block `inner`, which `p` opened
abbrev pub TakesBlock : OpenBlocks → Opener → Block → OpenBlocks → Type 0
TakesBlock old p inner new =
    (old.outer.items ≡ new.outer.items ++ record { block = new.block; opener = p } ∷ []) × (inner ≡ old.block)

-- the statement `s` ends with the block `inner`, which `p` opened, and the marks `last`
pub record Closes (last : Marks) (p : Opener) (inner : Block) (s : Statement) : Type 0 where
  pub said : (has_statements (kind_of p) ≡ false → (out-Block inner).body.items ≡ [])
      → marks_of_statement s ≡ opener_marks p ++ (marks_of_block inner ++ last)
  pub shallow : depth_of_statement s ≤ max (opener_depth p) (depth inner) + 1

-- the cases `new` are the cases `old` and one more, of the block `body`, which begins with `head`
pub record AddsCase (old : List SwitchCase) (head : CaseHead) (body : Block) (new : List SwitchCase) : Type 0 where
  pub said : flat_map marks_of_case new ≡ flat_map marks_of_case old ++ mark.Case head ∷ marks_of_block body
  pub shallow : greatest (map depth_of_case new) ≡ max (greatest (map depth_of_case old)) (depth body)
