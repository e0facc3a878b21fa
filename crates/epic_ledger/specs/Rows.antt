-- How a ledger keeps its emissions and its events.
use Rattle.std.specs.Prelude.{◌≡◌, ℕ, ◌+◌, ◌-◌, ◌≤◌, List, length, map, min, take, drop, None}
use Rattle.std.specs.List.{All, sum_by}
use Rattle.epic_num.specs.Chains.{Issue, no_name}
use Rattle.epic_num.specs.Levels.{is_first_byte}
use Rattle.epic_layout.specs.Layout.{fault}
use Rattle.epic_ledger.specs.History.{Emission}
use Rattle.epic_ledger.specs.Facts.{issues_in}
use Rattle.epic_tree.specs.Index.{IsTagged}
use Rattle.epic_tree.specs.Sides.{Ordered}
use Rattle.epic_ledger.specs.Ranks.{name_cmp, name_tag, names_of}
use Rattle.epic_ledger.specs.declared.event.Event.{Event}
use Rattle.epic_ledger.specs.declared.emissions.Span.{Span}
use Rattle.epic_ledger.specs.declared.log.Issued.{Issued}
use Rattle.epic_ledger.specs.declared.limits.TheConstants.{MAX_EVENTS, MAX_EMISSIONS, MAX_BYTES}

-- how many more fit in, where there are places for `capacity` and at most `most` may stand there
abbrev pub room : ℕ → ℕ → ℕ → ℕ
room capacity most len = min capacity most - len

-- an emission whose bytes lie in a row
unfoldable pub emission_in : List ℕ → Span → Emission
emission_in row s = record { place = s.place; bytes = take s.len (drop s.start row) }

abbrev pub emissions_in : List ℕ → List Span → List Emission
emissions_in row spans = map (emission_in row) spans

-- the bytes of all emissions are packets, and make up a row
pub record IsRow (row : List ℕ) (spans : List Span) : Type 0 where
  pub packets : All (λ e. fault is_first_byte e.bytes ≡ None) (emissions_in row spans)
  pub within : All (λ s. s.start + s.len ≤ length row) spans
  pub whole : sum_by (λ s. s.len) spans ≡ length row
  pub few : length spans ≤ MAX_EMISSIONS
  pub few_bytes : length row ≤ MAX_BYTES

-- an issue with its parent, as a fact
unfoldable pub issue_in : Issued → Issue
issue_in i = record { name = i.name; parent = i.parent }

-- the issues are those of the events, and their names stand in a tree
pub record IsLog (events : List Event) (issues : List Issued) (names : Ordered) : Type 0 where
  pub issued : map issue_in issues ≡ issues_in events
  pub few : length events ≤ MAX_EVENTS
  pub few_issues : length issues ≤ length events
  pub named : IsTagged name_cmp name_tag no_name (names_of issues) names
