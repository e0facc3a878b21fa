-- What a line of a ledger file tells by its words alone, or its fault. A word that chooses the line's form is told first, then the
-- number of words, then the first bad word.
use Rattle.std.specs.Prelude.{ℕ, ◌==◌, nat_lt, List, [], ◌∷◌, Result, Ok, Err, codes, bytes_eq, if◌then◌else◌}
use Rattle.std.specs.List.{list_all}
use Rattle.epic_num.specs.declared.passed.Place.TheVariants.{Router, Host}
use Rattle.epic_num.specs.Names.{host_of, host_from, number_within}
use Rattle.epic_ledger.specs.declared.event.Event.TheVariants as event
use Rattle.epic_text.specs.RunScript.{as_named, bytes_of, holder_named, most8, most16, most32, most64, segments_of}
use Rattle.epic_record.specs.declared.fault.FileKind.{FileKind}
use Rattle.epic_record.specs.declared.fault.FileKind.TheVariants.{NotText, UnknownVerb, WordCount, BadWord, BadPlace}
use Rattle.epic_record.specs.declared.item.Item.{Item}
use Rattle.epic_record.specs.declared.item.Item.TheVariants as items
use Rattle.epic_record.specs.Words.{body_named, is_plain_byte, on_word, pieces}

-- `issue STEP NO AS G BODY PARENT`
abbrev pub issue_of : List (List ℕ) → Result Item FileKind
issue_of (step ∷ number ∷ asn ∷ generation ∷ body ∷ parent ∷ []) =
    on_word 2 (number_within most32 step) (λ s.
    on_word 3 (number_within most32 number) (λ n.
    on_word 4 (as_named asn) (λ a.
    on_word 5 (number_within most32 generation) (λ g.
    on_word 6 (body_named body) (λ b.
    on_word 7 (number_within most32 parent) (λ p.
    Ok (items.Event (event.Issue s n (record { asn = a; generation = g; body = b }) p))))))))
issue_of arguments = Err WordCount

-- `fetch STEP SOURCE OWNER EPOCH`
abbrev pub fetch_of : List (List ℕ) → Result Item FileKind
fetch_of (step ∷ source ∷ owner ∷ epoch ∷ []) =
    on_word 2 (number_within most32 step) (λ s.
    on_word 3 (as_named source) (λ a.
    on_word 4 (as_named owner) (λ o.
    on_word 5 (number_within most64 epoch) (λ e. Ok (items.Event (event.Fetch s a o e))))))
fetch_of arguments = Err WordCount

-- `send STEP E NO,NO,NO`
abbrev pub send_of : List (List ℕ) → Result Item FileKind
send_of (step ∷ emission ∷ numbers ∷ []) =
    on_word 2 (number_within most32 step) (λ s.
    on_word 3 (number_within most32 emission) (λ e.
    on_word 4 (segments_of numbers) (λ n. Ok (items.Event (event.Send s e n)))))
send_of arguments = Err WordCount

-- `pass STEP AS HOP G E`
abbrev pub pass_of : List (List ℕ) → Result Item FileKind
pass_of (step ∷ asn ∷ hop ∷ generation ∷ emission ∷ []) =
    on_word 2 (number_within most32 step) (λ s.
    on_word 3 (as_named asn) (λ a.
    on_word 4 (number_within most8 hop) (λ j.
    on_word 5 (number_within most32 generation) (λ g.
    on_word 6 (number_within most32 emission) (λ e. Ok (items.Event (event.Pass s a j g e)))))))
pass_of arguments = Err WordCount

-- `arrive STEP HOST SRC TS HOPS CHECKED`. The source's isolation domain and number may be 0. A number above 1 is of CHECKED's
-- form, but may stand nowhere.
abbrev pub arrive_of : List (List ℕ) → Result Item FileKind
arrive_of (step ∷ host ∷ src ∷ ts ∷ hops ∷ checked ∷ []) =
    on_word 2 (number_within most32 step) (λ s.
    on_word 3 (host_of host) (λ h.
    on_word 4 (host_from 0 src) (λ f.
    on_word 5 (number_within most64 ts) (λ t.
    on_word 6 (number_within most8 hops) (λ n.
    on_word 7 (number_within most8 checked) (λ c.
    if nat_lt 1 c then Err BadPlace else Ok (items.Event (event.Arrive s h f t n (c == 1)))))))))
arrive_of arguments = Err WordCount

-- `reveal STEP HOLDER`
abbrev pub reveal_of : List (List ℕ) → Result Item FileKind
reveal_of (step ∷ who ∷ []) =
    on_word 2 (number_within most32 step) (λ s.
    on_word 3 (holder_named who) (λ h. Ok (items.Event (event.Reveal s h))))
reveal_of arguments = Err WordCount

-- `roll STEP AS G`
abbrev pub roll_of : List (List ℕ) → Result Item FileKind
roll_of (step ∷ asn ∷ generation ∷ []) =
    on_word 2 (number_within most32 step) (λ s.
    on_word 3 (as_named asn) (λ a.
    on_word 4 (number_within most32 generation) (λ g. Ok (items.Event (event.Roll s a g)))))
roll_of arguments = Err WordCount

-- `emit E turn AS IF BYTES`, the words after `turn`
abbrev pub turn_of : List ℕ → List (List ℕ) → Result Item FileKind
turn_of number (asn ∷ iface ∷ bytes ∷ []) =
    on_word 2 (number_within most32 number) (λ e.
    on_word 4 (as_named asn) (λ a.
    on_word 5 (number_within most16 iface) (λ i.
    on_word 6 (bytes_of bytes) (λ b. Ok (items.Emission e (Router a i) b)))))
turn_of number arguments = Err WordCount

-- `emit E arrive HOST BYTES`, the words after `arrive`
abbrev pub due_of : List ℕ → List (List ℕ) → Result Item FileKind
due_of number (host ∷ bytes ∷ []) =
    on_word 2 (number_within most32 number) (λ e.
    on_word 4 (host_of host) (λ h.
    on_word 5 (bytes_of bytes) (λ b. Ok (items.Emission e (Host h) b))))
due_of number arguments = Err WordCount

-- the words after `emit`
abbrev pub emit_of : List (List ℕ) → Result Item FileKind
emit_of (number ∷ due ∷ more) =
    if bytes_eq due (codes "turn") then turn_of number more
    else if bytes_eq due (codes "arrive") then due_of number more
    else Err (BadWord 3)
emit_of arguments = Err WordCount

-- `accept hop AS G J BYTES`, the words after `hop`
abbrev pub accept_hop_of : List (List ℕ) → Result Item FileKind
accept_hop_of (asn ∷ generation ∷ hop ∷ bytes ∷ []) =
    on_word 3 (as_named asn) (λ a.
    on_word 4 (number_within most32 generation) (λ g.
    on_word 5 (number_within most8 hop) (λ j.
    on_word 6 (bytes_of bytes) (λ b. Ok (items.AcceptHop a g j b)))))
accept_hop_of arguments = Err WordCount

-- `accept dest HOST BYTES`, the words after `dest`
abbrev pub accept_dest_of : List (List ℕ) → Result Item FileKind
accept_dest_of (host ∷ bytes ∷ []) =
    on_word 3 (host_of host) (λ h. on_word 4 (bytes_of bytes) (λ b. Ok (items.AcceptDest h b)))
accept_dest_of arguments = Err WordCount

-- the words after `accept`
abbrev pub accept_of : List (List ℕ) → Result Item FileKind
accept_of [] = Err WordCount
accept_of (what ∷ more) =
    if bytes_eq what (codes "hop") then accept_hop_of more
    else if bytes_eq what (codes "dest") then accept_dest_of more
    else Err (BadWord 2)

-- the first word of a line, and the others
abbrev pub told_by : List ℕ → List (List ℕ) → Result Item FileKind
told_by verb arguments =
    if bytes_eq verb (codes "issue") then issue_of arguments
    else if bytes_eq verb (codes "fetch") then fetch_of arguments
    else if bytes_eq verb (codes "send") then send_of arguments
    else if bytes_eq verb (codes "pass") then pass_of arguments
    else if bytes_eq verb (codes "arrive") then arrive_of arguments
    else if bytes_eq verb (codes "reveal") then reveal_of arguments
    else if bytes_eq verb (codes "roll") then roll_of arguments
    else if bytes_eq verb (codes "emit") then emit_of arguments
    else if bytes_eq verb (codes "accept") then accept_of arguments
    else Err UnknownVerb

abbrev pub told_by_words : List (List ℕ) → Result Item FileKind
told_by_words [] = Err UnknownVerb
told_by_words (verb ∷ arguments) = told_by verb arguments

-- what a line tells, or its fault; a byte that is no text is told first
unfoldable pub item_of : List ℕ → Result Item FileKind
item_of line = if list_all is_plain_byte line then told_by_words (pieces line) else Err NotText
