-- What a capture holds, whatever its form: its records up to its first damage, and that damage.
use Rattle.std.specs.Prelude.{ℕ, List, [], ◌∷◌, Option, Some, None, Result, Ok, Err}
use Rattle.epic_num.specs.declared.passed.Place.{Place}

-- a record: its moment in microseconds, where the packet is due, the packet's bytes
pub record Captured : Type 0 where
  pub moment : ℕ
  pub place : Place
  pub bytes : List ℕ

-- the records up to the first damage, and that damage where there is one
pub record Records (E : Type 0) : Type 0 where
  pub items : List Captured
  pub damage : Option E

-- nothing is left
abbrev pub whole : {E : Type 0} → Records E
whole = record { items = []; damage = None }

-- nothing but damage is left
abbrev pub damaged : {E : Type 0} → E → Records E
damaged e = record { items = []; damage = Some e }

-- a record stands before the others
abbrev pub with_record : {E : Type 0} → Captured → Records E → Records E
with_record x more = record { items = x ∷ more.items; damage = more.damage }

-- what is told of a capture now, and then the rest of it
abbrev pub told : {E : Type 0} → Result (Option Captured) E → Records E → Records E
told (Ok (Some x)) more = with_record x more
told (Ok None) more = more
told (Err e) more = damaged e
