-- What calls that do acts leave, one call after the other.
use Rattle.std.proofs.Common.{◌≡◌, ℕ, ◌≤◌, List, [], ◌∷◌, ◌++◌, Option, Some, None, Result, Ok, Err, Contains, OnOk, OnErr, refl, sym, ap, subst, ◌∙◌, inl, inr, append_assoc, arith}
use Rattle.epic_ports.specs.Faults.{CountsOnly, FailsBy, FailsWhereRose, Rose}
use Rattle.epic_ports.specs.Files.{Files, KeepsFiles, Grows, GrowsBefore, Replaces, bytes_at}
use Rattle.epic_ports.specs.Written.{Appends}
use Rattle.epic_ports.specs.declared.error.PortError.{PortError}
use Rattle.epic_ports.specs.declared.error.PortError.TheVariants.{Failed, OutOfMemory}
use Rattle.epic_app.specs.Acts.{Act, Print, Create, Append, World, Does, Fails, appends, creates, prints}
use Rattle.epic_app.specs.Kept.{Kept, names}
use Rattle.epic_app.specs.Performing.{Blamed, OthersKeep, Performs, Stays, Stopped, Works}
use Rattle.epic_app.specs.Writing.{Writes}
use Rattle.epic_app.proofs.ActFiles.{appends-before, does_both, does_create, does_grow, does_nothing, does_text, prints-append, prints-before}
use Rattle.epic_app.proofs.FileLaws.{later_by}

-- ---- counts that didn't fall

rose_in : (a b c : ℕ) → a ≤ b → Rose b c → Rose a c
rose_in a b c low rose = grind (arith, low, rose)

-- no count of faults of the output or of writes fell
abbrev pub Later : World → World → Type 0
Later old new = (old.faults ≤ new.faults) × ((q : List ℕ) → old.writes q ≤ new.writes q)

-- what fails later fails over the whole
pub fails_in : (act : Act) (u v w : World) → Later u v → Fails act v w → Fails act u w
fails_in (Print byte) u v w (faults, writes) fails = rose_in u.faults v.faults w.faults faults fails
fails_in (Create name) u v w (faults, writes) fails = rose_in (u.writes name) (v.writes name) (w.writes name) (writes name) fails
fails_in (Append name byte) u v w (faults, writes) fails = rose_in (u.writes name) (v.writes name) (w.writes name) (writes name) fails

pub blamed_in : (kept : List Kept) (u v w : World) → Later u v → Blamed kept v w → Blamed kept u w
blamed_in kept u v w (faults, writes) (inl rose) = inl (rose_in u.faults v.faults w.faults faults rose)
blamed_in kept u v w (faults, writes) (inr (name, among, rose)) =
    inr (name, among, rose_in (u.writes name) (v.writes name) (w.writes name) (writes name) rose)

pub others_both : (kept : List Kept) (u v w : Option Files) → OthersKeep kept u v → OthersKeep kept v w → OthersKeep kept u w
others_both kept None v w first next = tt
others_both kept (Some f) None w first next = absurd first
others_both kept (Some f) (Some g) None first next = absurd next
others_both kept (Some f) (Some g) (Some h) first next = λ q absent. next q absent ∙ first q absent

pub stays_both : (kept : List Kept) (u v w : World) → Stays kept u v → Stays kept v w → Stays kept u w
stays_both kept u v w first next = record {
  faults = omega (arith, first.faults, next.faults);
  reads = next.reads ∙ first.reads;
  later = λ q. omega (arith, first.later q, next.later q);
  others = λ q absent. next.others q absent ∙ first.others q absent;
  files = others_both kept u.contents v.contents w.contents first.files next.files;
}

-- ---- one call after the other

-- these acts were done, and then less of others
stopped_after : (kept : List Kept) (a b : List Act) (u v w : World) (e : PortError)
    → Does a u v → Later u v → Stopped kept b v w e → Stopped kept (a ++ b) u w e
stopped_after kept a b u v w Failed first later (stops, blamed) = (
  record {
    before = a ++ stops.before;
    act = stops.act;
    after = stops.after;
    order = ap (λ acts. a ++ acts) stops.order ∙ sym (append_assoc a stops.before (stops.act ∷ stops.after));
    done = does_both a stops.before u v w first stops.done;
    fails = fails_in stops.act u v w later stops.fails;
  },
  blamed_in kept u v w later blamed,
)
stopped_after kept a b u v w OutOfMemory first later stops = record {
  before = a ++ stops.before;
  after = stops.after;
  order = ap (λ acts. a ++ acts) stops.order ∙ sym (append_assoc a stops.before stops.after);
  done = does_both a stops.before u v w first stops.done;
}

-- or others so
performs_later : {X : Type 0} (kept : List Kept) (a b : List Act) (u v w : World) (r : Result X PortError)
    → Does a u v → Later u v → Performs kept b v w r → Performs kept (a ++ b) u w r
performs_later kept a b u v w (Ok x) first later done = does_both a b u v w first done
performs_later kept a b u v w (Err e) first later stops = stopped_after kept a b u v w e first later stops

pub performs_after : {X : Type 0} (kept : List Kept) (a b : List Act) (u v w : World) (r : Result X PortError)
    → Does a u v → Stays kept u v → Performs kept b v w r → Performs kept (a ++ b) u w r
performs_after kept a b u v w r first stays performs = performs_later kept a b u v w r first (stays.faults, stays.later) performs

-- or others so, where files were read meanwhile
pub performs_works : {X : Type 0} (kept : List Kept) (a b : List Act) (u v w : World) (r : Result X PortError)
    → Does a u v → Works kept u v → Performs kept b v w r → Performs kept (a ++ b) u w r
performs_works kept a b u v w r first works performs = performs_later kept a b u v w r first (works.faults, works.later) performs

-- and less of others so
pub stopped_later : (kept : List Kept) (a b : List Act) (u v w : World) (e : PortError)
    → Does a u v → Works kept u v → Stopped kept b v w e → Stopped kept (a ++ b) u w e
stopped_later kept a b u v w e first works stops = stopped_after kept a b u v w e first (works.faults, works.later) stops

-- files that are read before change nothing of that
pub performs_read : {X : Type 0} (kept : List Kept) (acts : List Act) (u v w : World) (r : Result X PortError)
    → KeepsFiles u.contents v.contents → Appends u.written v.written [] → u.faults ≤ v.faults → v.writes ≡ u.writes → Performs kept acts v w r → Performs kept acts u w r
performs_read kept acts u v w r keeps nothing faults writes performs =
    performs_later kept [] acts u v w r (does_nothing u v keeps nothing) (faults, λ q. omega (arith, ap (λ (counts : List ℕ → ℕ). counts q) writes)) performs

-- less of these acts is less of those that begin with them
pub stopped_more : (kept : List Kept) (a b : List Act) (u v : World) (e : PortError) → Stopped kept a u v e → Stopped kept (a ++ b) u v e
stopped_more kept a b u v Failed (stops, blamed) = (
  record {
    before = stops.before;
    act = stops.act;
    after = stops.after ++ b;
    order = ap (λ acts. acts ++ b) stops.order ∙ append_assoc stops.before (stops.act ∷ stops.after) b;
    done = stops.done;
    fails = stops.fails;
  },
  blamed,
)
stopped_more kept a b u v OutOfMemory stops = record {
  before = stops.before;
  after = stops.after ++ b;
  order = ap (λ acts. acts ++ b) stops.order ∙ append_assoc stops.before stops.after b;
  done = stops.done;
}

-- less was done of a part of all acts
pub stopped_in : (kept : List Kept) (front part more all : List Act) (u v w : World) (e : PortError)
    → Does front u v → Stays kept u v → Stopped kept part v w e → all ≡ front ++ (part ++ more) → Stopped kept all u w e
stopped_in kept front part more all u v w e first stays stops is =
    let P : List Act → Type 0 = λ acts. Stopped kept acts u w e in
    subst P (sym is) (stopped_after kept front (part ++ more) u v w e first (stays.faults, stays.later) (stopped_more kept part more v w e stops))

-- an answer that is this error
pub performs_err : {X : Type 0} (kept : List Kept) (acts : List Act) (old new : World) (r : Result X PortError) (e : PortError)
    → r ≡ Err e → Stopped kept acts old new e → Performs kept acts old new r
performs_err kept acts old new r e is stops = rw is stops

-- memory was wanting before anything was done
pub stopped_first : (kept : List Kept) (acts : List Act) (old new : World) → KeepsFiles old.contents new.contents → Appends old.written new.written []
    → Stopped kept acts old new OutOfMemory
stopped_first kept acts old new keeps nothing = record { before = []; after = acts; order = refl; done = does_nothing old new keeps nothing }

-- ---- a text on the output

pub prints_performed : {X : Type 0} (kept : List Kept) (text : List ℕ) (old new : World) (r : Result X PortError) → KeepsFiles old.contents new.contents
    → Writes text old.written new.written old.faults new.faults r → Performs kept (prints text) old new r
prints_performed kept text old new (Ok x) keeps written = does_text text old new keeps written
prints_performed kept text old new (Err Failed) keeps (less, rose) = (
  record {
    before = prints less.front;
    act = Print less.byte;
    after = prints less.back;
    order = ap prints less.order ∙ prints-before less.front less.byte less.back;
    done = does_text less.front old new keeps less.written;
    fails = rose;
  },
  inl rose,
)
prints_performed kept text old new (Err OutOfMemory) keeps (front, back, is, written) = record {
  before = prints front;
  after = prints back;
  order = ap prints is ∙ prints-append front back;
  done = does_text front old new keeps written;
}

-- ---- a file that is kept

module _ (kept : List Kept) (name : List ℕ) (among : Contains (names kept) name) where
  pub grows_performed : {X : Type 0} (text : List ℕ) (old new : World) (r : Result X PortError)
      → OnOk r (Grows old.contents new.contents name text) → OnErr r (GrowsBefore old.contents new.contents name text)
      → FailsWhereRose (old.writes name) (new.writes name) r → Appends old.written new.written []
      → Performs kept (appends name text) old new r
  grows_performed text old new (Ok x) ok err cause nothing = does_grow name text old new ok nothing
  grows_performed text old new (Err Failed) ok err cause nothing = (
    record {
      before = appends name err.front;
      act = Append name err.byte;
      after = appends name err.back;
      order = ap (appends name) err.order ∙ appends-before name err.front err.byte err.back;
      done = does_grow name err.front old new err.added nothing;
      fails = cause;
    },
    inr (name, among, cause),
  )
  grows_performed text old new (Err OutOfMemory) ok err cause nothing = record {
    before = appends name err.front;
    after = Append name err.byte ∷ appends name err.back;
    order = ap (appends name) err.order ∙ appends-before name err.front err.byte err.back;
    done = does_grow name err.front old new err.added nothing;
  }

  -- it is made
  pub create_performed : {X : Type 0} (old new : World) (r : Result X PortError)
      → OnOk r (Replaces old.contents new.contents name []) → OnErr r (KeepsFiles old.contents new.contents)
      → FailsBy (old.writes name) (new.writes name) r → Appends old.written new.written []
      → Performs kept (creates name) old new r
  unfolding creates
  create_performed old new (Ok x) ok err cause nothing = does_create name old new ok nothing
  create_performed old new (Err Failed) ok err cause nothing = (
    record { before = []; act = Create name; after = []; order = refl; done = does_nothing old new err nothing; fails = cause },
    inr (name, among, cause),
  )
  create_performed old new (Err OutOfMemory) ok err cause nothing = record {
    before = [];
    after = Create name ∷ [];
    order = refl;
    done = does_nothing old new err nothing;
  }

-- ---- what stays

pub others_kept : (kept : List Kept) (old new : Option Files) → KeepsFiles old new → OthersKeep kept old new
others_kept kept None new keeps = tt
others_kept kept (Some f) None keeps = absurd keeps
others_kept kept (Some f) (Some g) keeps = λ q absent. ap (λ (files : Files). files q) keeps

pub others_read : (kept : List Kept) (old mid new : Option Files) → KeepsFiles old mid → OthersKeep kept mid new → OthersKeep kept old new
others_read kept old mid new keeps others = others_both kept old mid new (others_kept kept old mid keeps) others

-- the files stay, and the counts of the output's faults didn't fall
pub stays_kept : (kept : List Kept) (old new : World) → KeepsFiles old.contents new.contents → old.faults ≤ new.faults
    → new.reads ≡ old.reads → new.writes ≡ old.writes → Stays kept old new
stays_kept kept old new keeps later reads writes = record {
  faults = later;
  reads = reads;
  later = λ q. omega (arith, ap (λ (counts : List ℕ → ℕ). counts q) writes);
  others = λ q absent. ap (λ (counts : List ℕ → ℕ). counts q) writes;
  files = others_kept kept old.contents new.contents keeps;
}

module _ (kept : List Kept) (name : List ℕ) (among : Contains (names kept) name) where
  -- a name that isn't kept is another
  another : (q : List ℕ) → ¬ Contains (names kept) q → q ≡ name → ⊥
  another q absent e = absent (subst (Contains (names kept)) (sym e) among)

  others_replaced : (bytes : List ℕ) (old new : Option Files) → Replaces old new name bytes → OthersKeep kept old new
  others_replaced bytes None new is = tt
  others_replaced bytes (Some f) None is = absurd is
  others_replaced bytes (Some f) (Some g) (is, others) = λ q absent. others q (another q absent)

  others_grown : (text : List ℕ) (old new : Option Files) → Grows old new name text → OthersKeep kept old new
  others_grown [] old new keeps = others_kept kept old new keeps
  others_grown (byte ∷ text) old new is = others_replaced (bytes_at old name ++ byte ∷ text) old new is

  -- no other file was written
  stays_written : (old new : World) → OthersKeep kept old.contents new.contents → old.faults ≤ new.faults
      → new.reads ≡ old.reads → CountsOnly name old.writes new.writes → Stays kept old new
  stays_written old new files later reads writes = record {
    faults = later;
    reads = reads;
    later = λ q. later_by name q old.writes new.writes writes;
    others = λ q absent. writes.others q (another q absent);
    files = files;
  }

  pub create_stays : {X : Type 0} (old new : World) (r : Result X PortError)
      → OnOk r (Replaces old.contents new.contents name []) → OnErr r (KeepsFiles old.contents new.contents)
      → old.faults ≤ new.faults → new.reads ≡ old.reads → CountsOnly name old.writes new.writes → Stays kept old new
  create_stays old new (Ok x) ok err later reads writes = stays_written old new (others_replaced [] old.contents new.contents ok) later reads writes
  create_stays old new (Err e) ok err later reads writes = stays_written old new (others_kept kept old.contents new.contents err) later reads writes

  pub grows_stays : {X : Type 0} (text : List ℕ) (old new : World) (r : Result X PortError)
      → OnOk r (Grows old.contents new.contents name text) → OnErr r (GrowsBefore old.contents new.contents name text)
      → old.faults ≤ new.faults → new.reads ≡ old.reads → CountsOnly name old.writes new.writes → Stays kept old new
  grows_stays text old new (Ok x) ok err later reads writes = stays_written old new (others_grown text old.contents new.contents ok) later reads writes
  grows_stays text old new (Err e) ok err later reads writes = stays_written old new (others_grown err.front old.contents new.contents err.added) later reads writes
