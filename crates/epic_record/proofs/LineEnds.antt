-- A packet's bytes at the end of a line.
use Rattle.std.proofs.Common.{◌≡◌, ℕ, List, [], ◌∷◌, ◌++◌, ap, sym, codes, decimal, append_assoc, ◌∙◌}
use Rattle.epic_num.specs.declared.name.AsId.{AsId}
use Rattle.epic_num.specs.declared.name.HostId.{HostId}
use Rattle.epic_num.specs.declared.passed.Place.TheVariants.{Router, Host}
use Rattle.epic_num.specs.Names.{as_text, host_text}
use Rattle.epic_audit.specs.ForgedText.{words_text}
use Rattle.epic_text.specs.Line.{bytes_text}
use Rattle.epic_record.specs.declared.item.Item.TheVariants.{Emission, AcceptHop, AcceptDest}
use Rattle.epic_record.specs.LedgerText.{words_line, item_line, emission_words}

-- one word more, a space before it, and the line feed
words_end : (word : List ℕ) (words : List (List ℕ)) (last : List ℕ) → words_text (word ∷ words) ++ (32 ∷ (last ++ (10 ∷ []))) ≡ words_line ((word ∷ words) ++ last ∷ [])
words_end word [] last = sym (append_assoc word (32 ∷ last) (10 ∷ []))
words_end word (next ∷ more) last =
    append_assoc word (32 ∷ words_text (next ∷ more)) (32 ∷ (last ++ (10 ∷ [])))
    ∙ ap (λ m. word ++ (32 ∷ m)) (words_end next more last)
    ∙ sym (append_assoc word (32 ∷ words_text ((next ∷ more) ++ last ∷ [])) (10 ∷ []))

pub turn_line : (number : ℕ) (a : AsId) (iface : ℕ) (bytes : List ℕ)
    → words_text (codes "emit" ∷ decimal number ∷ codes "turn" ∷ as_text a.0 ∷ decimal iface ∷ []) ++ (32 ∷ (bytes_text bytes ++ (10 ∷ []))) ≡ item_line (Emission number (Router a iface) bytes)
unfolding item_line emission_words
turn_line number a iface bytes =
    words_end (codes "emit") (decimal number ∷ codes "turn" ∷ as_text a.0 ∷ decimal iface ∷ []) (bytes_text bytes)

pub arrive_line : (number : ℕ) (host : HostId) (bytes : List ℕ)
    → words_text (codes "emit" ∷ decimal number ∷ codes "arrive" ∷ host_text host ∷ []) ++ (32 ∷ (bytes_text bytes ++ (10 ∷ []))) ≡ item_line (Emission number (Host host) bytes)
unfolding item_line emission_words
arrive_line number host bytes =
    words_end (codes "emit") (decimal number ∷ codes "arrive" ∷ host_text host ∷ []) (bytes_text bytes)

pub hop_line : (a : AsId) (generation hop : ℕ) (bytes : List ℕ)
    → words_text (codes "accept" ∷ codes "hop" ∷ as_text a.0 ∷ decimal generation ∷ decimal hop ∷ []) ++ (32 ∷ (bytes_text bytes ++ (10 ∷ []))) ≡ item_line (AcceptHop a generation hop bytes)
unfolding item_line
hop_line a generation hop bytes =
    words_end (codes "accept") (codes "hop" ∷ as_text a.0 ∷ decimal generation ∷ decimal hop ∷ []) (bytes_text bytes)

pub dest_line : (host : HostId) (bytes : List ℕ)
    → words_text (codes "accept" ∷ codes "dest" ∷ host_text host ∷ []) ++ (32 ∷ (bytes_text bytes ++ (10 ∷ []))) ≡ item_line (AcceptDest host bytes)
unfolding item_line
dest_line host bytes = words_end (codes "accept") (codes "dest" ∷ host_text host ∷ []) (bytes_text bytes)
