use Rattle.std.proofs.Common.{◌≡◌, take}
use Rattle.epic_num.specs.declared.name.AsId.{AsId}
use Rattle.epic_path.specs.Search.{core_links, last_links, links_at}
use Rattle.epic_path.proofs.search.Search.new.Given as goal

abbrev pub invariant-loop-segment : goal.invariant-loop-segment
invariant-loop-segment l =
    (l.search.to ≡ l.fn.to)
    × (l.search.most ≡ l.fn.most)
    × ((at : AsId) → links_at l.search.cores at ≡ core_links (take l.segment-index l.segments) at)
    × ((at : AsId) → links_at l.search.downs at ≡ last_links l.fn.to (take l.segment-index l.segments) at)
