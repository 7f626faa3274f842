-- The paths by which an arena of types finds the index of a type. All links stand in one list: those at which paths
-- begin, and then four of each node. A link is 0 if it leads nowhere, and one more than the index of the node to which
-- it leads.
use Rattle.std.specs.Prelude.{◌≡◌, ◌≢◌, ℕ, zero, suc, ◌+◌, ◌*◌, ◌/◌, ◌%◌, ◌<◌, ◌≤◌, ◌==◌, List, length, if◌then◌else◌, Some, slice_get, slice_index_or}
use Rattle.std.specs.List.{fold}
use Rattle.std.specs.Hash.DefaultHasher as sip
use Rattle.std.specs.Hash.FoldHasher as folding
use Rattle.naga_ir.specs.declared.types.«Type».{«Type»}
use Rattle.naga_ir.specs.contracts.types.TypeHash.TheImpl.{ghosts}

-- the 64 bits by which the path of type ty begins
unfoldable pub first_hash : «Type» → ℕ
first_hash ty = folding.finish (fold folding.write folding.initial (ghosts.hash_input ty))

-- the 64 bits by which the path of type ty goes on
unfoldable pub second_hash : «Type» → ℕ
second_hash ty = sip.finish (fold sip.write sip.initial (ghosts.hash_input ty))

-- the number of links at which paths begin
abbrev pub first_links : ℕ
first_links = 1024

-- the number of links of so many nodes, with those at which paths begin
abbrev pub links_of : ℕ → ℕ
links_of nodes = first_links + 4 * nodes

-- the link of a node that the two lowest bits choose
abbrev pub link_of : ℕ → ℕ → ℕ
link_of node bits = links_of node + bits % 4

-- the depth of the last link that the first hash chooses
abbrev pub last_by_first_hash : ℕ
last_by_first_hash = 6

-- what is left of the bits of the path of type ty after a link of a node at a depth, which takes the two lowest
abbrev pub next_bits : «Type» → ℕ → ℕ → ℕ
next_bits ty depth bits = if depth == last_by_first_hash then second_hash ty else bits / 4

-- the link of an index: one that isn't in the list leads nowhere
abbrev pub link_at : List ℕ → ℕ → ℕ
link_at links i = slice_index_or links i 0

-- `steps` steps along the path of type ty, from the link `link` at `depth`, with `bits` left of the path, and the link
-- there lead to node k
abbrev pub Leads : List ℕ → «Type» → (depth bits link steps k : ℕ) → Type 0
Leads links ty depth bits link zero k = link_at links link ≡ suc k
Leads links ty depth bits link (suc steps) k =
    (node : ℕ) × (link_at links link ≡ suc node)
    × Leads links ty (depth + 1) (next_bits ty depth bits) (link_of node bits) steps k

-- the path of type ty leads to node k by these links
abbrev pub IsReached : List ℕ → «Type» → ℕ → Type 0
IsReached links ty k =
    (steps : ℕ) × Leads links ty 0 (first_hash ty / first_links) (first_hash ty % first_links) steps k

-- the path of each of the types leads to its index by these links
abbrev pub AllReached : List ℕ → List «Type» → Type 0
AllReached links types = (k : ℕ) (ty : «Type») → slice_get types k ≡ Some ty → IsReached links ty k

-- `links` are links of n nodes at most, each of which leads to one of these whose own links come after it
abbrev pub LinksGoOn : List ℕ → ℕ → Type 0
LinksGoOn links n =
    (length links ≤ links_of n) × ((i node : ℕ) → link_at links i ≡ suc node → (node < n) × (i < links_of node))

-- `hashes` are the first hashes of `types`, in their order
abbrev pub AreFirstHashes : List ℕ → List «Type» → Type 0
AreFirstHashes hashes types =
    (length hashes ≡ length types)
    × ((k : ℕ) (ty : «Type») → slice_get types k ≡ Some ty → slice_get hashes k ≡ Some (first_hash ty))

-- no link of `links` is lost or changed in `more`
abbrev pub KeepsLinks : List ℕ → List ℕ → Type 0
KeepsLinks links more = (i node : ℕ) → link_at links i ≡ suc node → link_at more i ≡ suc node

-- `more` are `links`, but that link i leads to node n
pub record IsLinked (links more : List ℕ) (i n : ℕ) : Type 0 where
  pub here : link_at more i ≡ suc n
  pub elsewhere : (j : ℕ) → j ≢ i → link_at more j ≡ link_at links j
  pub many : length more ≤ links_of n

-- link i leads nowhere yet; once it leads to node n, the path of type ty does
abbrev pub IsFreeLink : List ℕ → «Type» → ℕ → ℕ → Type 0
IsFreeLink links ty n i =
    (link_at links i ≡ 0) × ((more : List ℕ) → KeepsLinks links more → link_at more i ≡ suc n → IsReached more ty n)
