-- The statements and the items of bodies that words say: one reader for each, of its operands.
use Rattle.std.specs.Int.{w32, cast_signed}
use Rattle.std.specs.Prelude.{◌==◌, ◌||◌, ℕ, Bool, List, [], ◌∷◌, Option, Some, None, if◌then◌else◌, nat_lt, option_map, slice_get}
use Rattle.naga_ir.specs.declared.statement.AtomicFunction.{AtomicFunction}
use Rattle.naga_ir.specs.declared.statement.AtomicFunction.TheVariants as atomic
use Rattle.naga_ir.specs.declared.statement.Barrier.{Barrier}
use Rattle.naga_ir.specs.declared.statement.CollectiveOperation.TheVariants.{Reduce}
use Rattle.naga_ir.specs.declared.statement.GatherMode.{GatherMode}
use Rattle.naga_ir.specs.declared.statement.GatherMode.TheVariants as gather
use Rattle.naga_ir.specs.declared.statement.RayPipelineFunction.TheVariants.{TraceRay}
use Rattle.naga_ir.specs.declared.statement.RayQueryFunction.{RayQueryFunction}
use Rattle.naga_ir.specs.declared.statement.RayQueryFunction.TheVariants as step
use Rattle.naga_ir.specs.declared.statement.Statement.{Statement}
use Rattle.naga_ir.specs.declared.statement.Statement.TheVariants as statement
use Rattle.naga_ir.specs.declared.statement.SwitchValue.{SwitchValue}
use Rattle.naga_ir.specs.declared.statement.SwitchValue.TheVariants as value
use Rattle.naga_words.specs.declared.opcodes.TheConstants as code
use Rattle.naga_words.specs.Tables.{barriers, bools, collective_operations, subgroup_operations, work_group}
use Rattle.naga_draft.specs.declared.item.CaseHead.{CaseHead}
use Rattle.naga_draft.specs.declared.item.Mark.{Mark}
use Rattle.naga_draft.specs.declared.item.Mark.TheVariants as mark
use Rattle.naga_words.specs.Operands.{◌>>=◌, handle_of, nothing_of, optional_of, only_handle_of, only_of, zero_of}
use Rattle.naga_words.specs.Reading.{read_by, read_each, reads_four, reads_none, reads_one, reads_three, reads_two}

-- the atomic function that has a number and no operand
abbrev pub plain_function_of : ℕ → Option AtomicFunction
plain_function_of z =
    if z == 0 then Some atomic.Add
    else if z == 1 then Some atomic.Subtract
    else if z == 2 then Some atomic.And
    else if z == 3 then Some atomic.ExclusiveOr
    else if z == 4 then Some atomic.InclusiveOr
    else if z == 5 then Some atomic.Min
    else if z == 6 then Some atomic.Max
    else None

-- an atomic function, of a form and a word
abbrev pub atomic_function_of : ℕ → ℕ → Option AtomicFunction
atomic_function_of z a =
    if z == 7 then Some (atomic.Exchange (handle_of a))
    else zero_of a >>= (λ _. plain_function_of z)

-- a step of a ray query, of a form and two words
abbrev pub step_of : ℕ → ℕ → ℕ → Option RayQueryFunction
step_of z a b =
    if z == 0 then
    handle_of a >>= (λ structure. handle_of b >>= (λ descriptor. Some (step.Initialize structure descriptor)))
    else zero_of b >>= (λ _.
    if z == 1 then handle_of a >>= (λ result. Some (step.Proceed result))
    else if z == 2 then handle_of a >>= (λ hit_t. Some (step.GenerateIntersection hit_t))
    else if z == 3 then zero_of a >>= (λ _. Some step.ConfirmIntersection)
    else if z == 4 then zero_of a >>= (λ _. Some step.Terminate)
    else None)

-- a way to gather values, of a form and a word
abbrev pub gather_mode_of : ℕ → ℕ → Option GatherMode
gather_mode_of z a =
    if z == 0 then zero_of a >>= (λ _. Some gather.BroadcastFirst)
    else if z == 1 then handle_of a >>= (λ i. Some (gather.Broadcast i))
    else if z == 2 then handle_of a >>= (λ i. Some (gather.Shuffle i))
    else if z == 3 then handle_of a >>= (λ i. Some (gather.ShuffleDown i))
    else if z == 4 then handle_of a >>= (λ i. Some (gather.ShuffleUp i))
    else if z == 5 then handle_of a >>= (λ i. Some (gather.ShuffleXor i))
    else if z == 6 then handle_of a >>= (λ i. Some (gather.QuadBroadcast i))
    else if z == 7 then zero_of a >>= (λ _. Some gather.QuadSwap)
    else None

-- the reader of `Emit`
abbrev pub emit_of : List ℕ → Option Statement
emit_of (a ∷ b ∷ []) = Some (statement.Emit (record { start = a; end = b; kind = record {} }))
emit_of _ = None

-- the reader of `Atomic`
abbrev pub atomic_of : List ℕ → Option Statement
atomic_of (p ∷ z ∷ a ∷ v ∷ r ∷ []) = do
  pointer ← handle_of p
  fun ← atomic_function_of z a
  value ← handle_of v
  Some (statement.Atomic pointer fun value (handle_of r))
atomic_of _ = None

-- the reader of `ImageAtomic`
abbrev pub image_atomic_of : List ℕ → Option Statement
image_atomic_of (m ∷ c ∷ i ∷ z ∷ a ∷ v ∷ []) = do
  image ← handle_of m
  coordinate ← handle_of c
  fun ← atomic_function_of z a
  value ← handle_of v
  Some (statement.ImageAtomic image coordinate (handle_of i) fun value)
image_atomic_of _ = None

-- the reader of `RayQuery`
abbrev pub ray_query_of : List ℕ → Option Statement
ray_query_of (q ∷ z ∷ a ∷ b ∷ []) = do
  query ← handle_of q
  fun ← step_of z a b
  Some (statement.RayQuery query fun)
ray_query_of _ = None

-- the reader of `RayPipelineFunction`
abbrev pub trace_ray_of : List ℕ → Option Statement
trace_ray_of (s ∷ d ∷ p ∷ []) = do
  structure ← handle_of s
  descriptor ← handle_of d
  payload ← handle_of p
  Some (statement.RayPipelineFunction (TraceRay structure descriptor payload))
trace_ray_of _ = None

-- the reader of `SubgroupGather`
abbrev pub gather_of : List ℕ → Option Statement
gather_of (z ∷ b ∷ a ∷ r ∷ []) = do
  mode ← gather_mode_of z b
  argument ← handle_of a
  result ← handle_of r
  Some (statement.SubgroupGather mode argument result)
gather_of _ = None

-- the memory of a barrier: that of the workgroup, if there is no operand
abbrev pub barrier_of : List ℕ → Option Barrier
barrier_of [] = Some work_group
barrier_of (w ∷ []) = slice_get barriers w
barrier_of _ = None

-- the reader of `SubgroupCollectiveOperation`, which is a reduction unless a fourth operand says what it is
abbrev pub collective_of : List ℕ → Option Statement
collective_of (o ∷ a ∷ r ∷ []) = do
  op ← slice_get subgroup_operations o
  argument ← handle_of a
  result ← handle_of r
  Some (statement.SubgroupCollectiveOperation op Reduce argument result)
collective_of (o ∷ a ∷ r ∷ c ∷ []) = do
  op ← slice_get subgroup_operations o
  argument ← handle_of a
  result ← handle_of r
  collective_op ← slice_get collective_operations c
  Some (statement.SubgroupCollectiveOperation op collective_op argument result)
collective_of _ = None

-- the reader of `Call`
abbrev pub call_of : List ℕ → Option Statement
call_of (f ∷ r ∷ ws) = do
  function ← handle_of f
  arguments ← read_each handle_of ws
  Some (statement.Call function arguments (handle_of r))
call_of _ = None

-- the readers of statements, except calls
abbrev pub fixed_statements : List (ℕ × (List ℕ → Option Statement))
fixed_statements =
    (code.STATEMENT_EMIT, emit_of) ∷
    (code.STATEMENT_BREAK, reads_none statement.Break) ∷
    (code.STATEMENT_CONTINUE, reads_none statement.Continue) ∷
    (code.STATEMENT_RETURN, reads_one optional_of statement.Return) ∷
    (code.STATEMENT_KILL, reads_none statement.Kill) ∷
    (code.STATEMENT_CONTROL_BARRIER, λ ws. option_map statement.ControlBarrier (barrier_of ws)) ∷
    (code.STATEMENT_MEMORY_BARRIER, λ ws. option_map statement.MemoryBarrier (barrier_of ws)) ∷
    (code.STATEMENT_STORE, reads_two handle_of handle_of statement.Store) ∷
    (code.STATEMENT_IMAGE_STORE, reads_four handle_of handle_of optional_of handle_of statement.ImageStore) ∷
    (code.STATEMENT_ATOMIC, atomic_of) ∷
    (code.STATEMENT_IMAGE_ATOMIC, image_atomic_of) ∷
    (code.STATEMENT_WORKGROUP_UNIFORM_LOAD, reads_two handle_of handle_of statement.WorkGroupUniformLoad) ∷
    (code.STATEMENT_RAY_QUERY, ray_query_of) ∷
    (code.STATEMENT_TRACE_RAY, trace_ray_of) ∷
    (code.STATEMENT_SUBGROUP_BALLOT, reads_two handle_of optional_of statement.SubgroupBallot) ∷
    (code.STATEMENT_SUBGROUP_GATHER, gather_of) ∷
    (code.STATEMENT_SUBGROUP_OPERATION, collective_of) ∷
    (code.STATEMENT_COOPERATIVE_STORE, reads_three handle_of handle_of handle_of statement.CooperativeStore) ∷
    []

-- the statement of an opcode and its operands
abbrev pub statement_of : ℕ → List ℕ → Option Statement
statement_of z ws = if z == code.STATEMENT_CALL then call_of ws else read_by fixed_statements z ws

-- an opcode is not of those with which blocks begin and end
abbrev pub is_of_statement : ℕ → Bool
is_of_statement z = nat_lt z code.STATEMENT_BLOCK || nat_lt code.STATEMENT_END_LOOP z

-- when a case is executed, of a form and a word
abbrev pub switch_value_of : ℕ → ℕ → Option SwitchValue
switch_value_of z v =
    if z == 0 then zero_of v >>= (λ _. Some value.Default)
    else if z == 1 then Some (value.I32 (cast_signed w32 v))
    else if z == 2 then Some (value.U32 v)
    else None

-- what an item says of a case: whether the next one is executed after it, and maybe when it is executed
abbrev pub case_of : List ℕ → Option CaseHead
case_of (f ∷ []) = do
  fall_through ← slice_get bools f
  Some (record { value = None; fall_through = fall_through })
case_of (f ∷ z ∷ v ∷ []) = do
  fall_through ← slice_get bools f
  value ← switch_value_of z v
  Some (record { value = Some value; fall_through = fall_through })
case_of _ = None

-- the item of an opcode with which a block begins or ends
abbrev pub block_mark_of : ℕ → List ℕ → Option Mark
block_mark_of z ws =
    if z == code.STATEMENT_BLOCK then option_map (λ _. mark.Block) (nothing_of ws)
    else if z == code.STATEMENT_IF then option_map mark.If (only_handle_of ws)
    else if z == code.STATEMENT_ELSE then option_map (λ _. mark.Else) (nothing_of ws)
    else if z == code.STATEMENT_SWITCH then option_map mark.Switch (only_handle_of ws)
    else if z == code.STATEMENT_CASE then option_map mark.Case (case_of ws)
    else if z == code.STATEMENT_LOOP then option_map (λ _. mark.Loop) (nothing_of ws)
    else if z == code.STATEMENT_CONTINUING then option_map (λ _. mark.Continuing) (nothing_of ws)
    else if z == code.STATEMENT_END then option_map (λ _. mark.End) (nothing_of ws)
    else if z == code.STATEMENT_END_LOOP then option_map (λ w. mark.EndOfLoop (handle_of w)) (only_of ws)
    else None

-- the item of a body, of an opcode and its operands
abbrev pub mark_of : ℕ → List ℕ → Option Mark
mark_of z ws = if is_of_statement z then option_map mark.Statement (statement_of z ws) else block_mark_of z ws
