-- The stages of functions and of entry points after them.
use Rattle.std.proofs.Common.{◌≡◌, ℕ, ◌+◌, zero, suc, List, [], ◌∷◌, ◌++◌, Some, ap, arith, length, length-append, map, slice_get, ◌∙◌}
use Rattle.std.proofs.lemmas.List.{length-map}
use Rattle.std.proofs.lemmas.Option.{none-some, slice_get-map}
use Rattle.std.specs.Option.{option_map}
use Rattle.naga_info.specs.declared.module_info.FunctionInfo.{FunctionInfo}

-- the stages of what is known of a function
abbrev bits : FunctionInfo → ℕ
bits info = info.available_stages.0

-- the stages at the index of a function are those of the function
pub function_stages : (fs es : List FunctionInfo) (i : ℕ) (info : FunctionInfo) → slice_get fs i ≡ Some info → slice_get (map bits (fs ++ es)) i ≡ Some (bits info)
function_stages [] es i info h = absurd (none-some info h)
function_stages (f ∷ fs) es zero info h = ap (option_map bits) h
function_stages (f ∷ fs) es (suc i) info h = function_stages fs es i info h

-- the stages at an index past those of the functions are those of the entry point
pub entry_stages : (fs es : List FunctionInfo) (k i : ℕ) (info : FunctionInfo) → slice_get es k ≡ Some info → i ≡ length fs + k → slice_get (map bits (fs ++ es)) i ≡ Some (bits info)
entry_stages [] es k i info h e = let same : i ≡ k = omega arith in rw same (slice_get-map bits es k ∙ ap (option_map bits) h)
entry_stages (f ∷ fs) es k zero info h e = absurd (omega (arith, e))
entry_stages (f ∷ fs) es k (suc i) info h e = entry_stages fs es k i info h (omega (arith, e))

-- there are as many stages as functions and entry points
pub length_stages : (fs es : List FunctionInfo) → length (map bits (fs ++ es)) ≡ length fs + length es
length_stages fs es = simp (length-map, length-append)
