-- What an index keeps beside the ledger.
use Rattle.std.specs.Prelude.{◌≡◌, ℕ, List, [], ◌∷◌, ◌++◌, map}
use Rattle.epic_topo.specs.Network.{Network}
use Rattle.epic_ledger.specs.Facts.{facts_of, issues_in, reveals_in}
use Rattle.epic_ledger.specs.History.{History}
use Rattle.epic_ledger.specs.declared.event.Event.{Event}
use Rattle.epic_index.specs.Children.{child_rows}
use Rattle.epic_index.specs.Fields.{field_rows, update_rows, AreIssuersKnown}
use Rattle.epic_index.specs.Keys.{reveal_key}
use Rattle.epic_index.specs.Likes.{like_rows}
use Rattle.epic_index.specs.Numbered.{Numbered, AreRows, with_keys}
use Rattle.epic_index.specs.Origins.{origin_rows, repeats}
use Rattle.epic_index.specs.Passes.{pass_rows}
use Rattle.epic_index.specs.Sources.{source_rows}
use Rattle.epic_index.specs.Stepping.{stepped}
use Rattle.epic_index.specs.Twins.{twin_keys}
use Rattle.epic_index.specs.declared.children.ChildKey.{ChildKey}
use Rattle.epic_index.specs.declared.fields.FieldKey.{FieldKey}
use Rattle.epic_index.specs.declared.likes.LikeKey.{LikeKey}
use Rattle.epic_index.specs.declared.origins.OriginKey.{OriginKey}
use Rattle.epic_index.specs.declared.passes.PassKey.{PassKey}
use Rattle.epic_index.specs.declared.reveals.RevealKey.{RevealKey}
use Rattle.epic_index.specs.declared.sources.SourceKey.{SourceKey}
use Rattle.epic_index.specs.declared.twins.TwinKey.{TwinKey}

-- the rows of each kind
pub record Held : Type 0 where
  pub reveals : List RevealKey
  pub twins : List TwinKey
  pub children : Numbered ChildKey
  pub sources : Numbered SourceKey
  pub likes : Numbered LikeKey
  pub passes : Numbered PassKey
  pub fields : Numbered FieldKey
  pub updates : Numbered FieldKey
  pub origins : Numbered OriginKey
  pub again : List OriginKey

-- the same, and for how many more rows of each there is room
pub record Holding : Type 0 where
  pub held : Held
  pub spare : ℕ

-- with the rows of an event that comes next in a history, and has this number
abbrev pub with_rows : Network → History → ℕ → Event → Held → Held
with_rows t h number e held = record {
  reveals = held.reveals ++ map reveal_key (reveals_in (e ∷ []));
  twins = held.twins ++ twin_keys t (issues_in (e ∷ []));
  children = with_keys held.children number (child_rows (facts_of h).issues e);
  sources = with_keys held.sources number (source_rows h.emissions (facts_of h).issues e);
  likes = with_keys held.likes number (like_rows h.emissions e);
  passes = with_keys held.passes number (pass_rows t h.emissions e);
  fields = with_keys held.fields number (field_rows t h.emissions (facts_of h).issues e);
  updates = with_keys held.updates number (update_rows t h.emissions e);
  origins = with_keys held.origins number (origin_rows h.emissions e);
  again = held.again ++ repeats held.origins.keys (origin_rows h.emissions e);
}

-- these are the rows of a history whose steps stand apart
pub record IsHeld (t : Network) (h : History) (steps : List ℕ) (held : Held) : Type 0 where
  pub revealed : held.reveals ≡ map reveal_key (reveals_in (stepped steps h.events))
  pub issued : held.twins ≡ twin_keys t (issues_in h.events)
  pub children : AreRows (child_rows (issues_in h.events)) h.events held.children
  pub sources : AreRows (source_rows h.emissions (issues_in h.events)) h.events held.sources
  pub likes : AreRows (like_rows h.emissions) h.events held.likes
  pub passes : AreRows (pass_rows t h.emissions) h.events held.passes
  pub fields : AreRows (field_rows t h.emissions (issues_in h.events)) h.events held.fields
  pub updates : AreRows (update_rows t h.emissions) h.events held.updates
  pub origins : AreRows (origin_rows h.emissions) h.events held.origins
  pub again : held.again ≡ repeats [] held.origins.keys
  pub known : AreIssuersKnown t (issues_in h.events)
