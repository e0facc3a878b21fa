-- The report of `hop`, written line by line.
use Rattle.std.proofs.Common.{Bool, cond, count_by, ◌≡◌, ℕ, suc, ◌+◌, ◌<◌, ◌≤◌, Option, List, [], ◌∷◌, ◌++◌, length, take, drop, get_or, refl, sym, ap, ◌∙◌, arith, append-nil}
use Rattle.std.proofs.lemmas.List.Sums.{sum_by-cons}
use Rattle.std.proofs.lemmas.List.{take_more, drop_more, drop_all}
use Rattle.epic_ports.specs.Written.{Appends}
use Rattle.epic_ports.specs.declared.error.PortError.{PortError}
use Rattle.epic_ports.proofs.Appended.{Appends-trans}
use Rattle.epic_app.specs.declared.hop_file.HopCommand.{HopCommand}
use Rattle.epic_app.specs.declared.hop_answer.HopAnswer.{HopAnswer}
use Rattle.epic_app.specs.Writing.{Stops}
use Rattle.epic_app.proofs.WritingLaws.{stops_after, stops_in, stops_more}
use Rattle.epic_app.specs.HopReport.{answer_of, answers_after, answers, is_accept, is_forged, end_text}

-- the answers from the command at this place on
abbrev pub rest_of : List ℕ → List HopCommand → ℕ → List HopAnswer
rest_of key commands i = answers_after key (take i commands) (drop i commands)

-- the answer to the command at this place is the first of them
pub rest_step : (key : List ℕ) (commands : List HopCommand) (i : ℕ) (d : HopCommand) (answer : HopAnswer) →
    answer ≡ answer_of key (take i commands) (get_or commands i d) → i < length commands → rest_of key commands i ≡ answer ∷ rest_of key commands (i + 1)
rest_step key commands i d answer is within =
    ap (answers_after key (take i commands)) (drop_more commands i d within)
    ∙ ap (λ (earlier : List HopCommand). answer_of key (take i commands) (get_or commands i d) ∷ answers_after key earlier (drop (i + 1) commands)) (sym (take_more commands i d within))
    ∙ ap (λ (given : HopAnswer). given ∷ rest_of key commands (i + 1)) (sym is)

pub rest_end : (key : List ℕ) (commands : List HopCommand) (i : ℕ) → length commands ≤ i →
    rest_of key commands i ≡ []
rest_end key commands i past = ap (answers_after key (take i commands)) (drop_all i commands past)

pub length-answers_after : (key : List ℕ) (earlier commands : List HopCommand) →
    length (answers_after key earlier commands) ≡ length commands
length-answers_after key earlier [] = refl
length-answers_after key earlier (command ∷ more) = ap suc (length-answers_after key (earlier ++ command ∷ []) more)

-- less of a line was written after the lines before it
pub stops_in_line : (u v w : Option (List ℕ)) (front line more end all : List ℕ) (k m n : ℕ) (e : PortError) → Appends u v front → k ≤ m →
    Stops line v w m n e → all ≡ front ++ (line ++ more) → Stops (all ++ end) u w k n e
stops_in_line u v w front line more end all k m n e before low stops is =
    stops_more u w all end k n e (stops_in u v w front line more all k m n e before low stops is)

-- the last line after all others
pub stops_in_end : (u v w : Option (List ℕ)) (front end all : List ℕ) (k m n : ℕ) (e : PortError) → Appends u v front → k ≤ m →
    Stops end v w m n e → all ≡ front ++ [] → Stops (all ++ end) u w k n e
stops_in_end u v w front end all k m n e before low stops is = rw (is ∙ append-nil front) (stops_after u v w front end k m n e before low stops)

pub end_after : (u v w : Option (List ℕ)) (front end all : List ℕ) → Appends u v front → Appends v w end →
    all ≡ front ++ [] → Appends u w (all ++ end)
end_after u v w front end all before now is = rw (is ∙ append-nil front) (Appends-trans u v w front end before now)

-- ---- counts

-- a count after one more answer
pub count_step : (p : HopAnswer → Bool) (all rest more : List HopAnswer) (answer : HopAnswer) (n n' : ℕ) (hit : Bool) →
    count_by p all ≡ n + count_by p rest → rest ≡ answer ∷ more → hit ≡ p answer → n' ≡ n + cond hit 1 0 → count_by p all ≡ n' + count_by p more
count_step p all rest more answer n n' hit counts step is next =
    let first : count_by p rest ≡ cond hit 1 0 + count_by p more =
    ap (count_by p) step ∙ sum_by-cons (λ x. cond (p x) 1 0) answer more ∙ ap (λ (b : Bool). cond b 1 0 + count_by p more) (sym is) in
    omega (arith, counts, first, next)

-- nothing is left to count
pub count_end : (p : HopAnswer → Bool) (all rest : List HopAnswer) (n : ℕ) →
    count_by p all ≡ n + count_by p rest → rest ≡ [] → n ≡ count_by p all
count_end p all rest n counts none =
    let nothing : count_by p rest ≡ 0 = ap (count_by p) none in
    omega (arith, counts, nothing)

-- the last line has the counts of all answers
pub end_same : (key : List ℕ) (commands : List HopCommand) (rest : List HopAnswer) (accepted forged : ℕ) →
    count_by is_accept (answers key commands) ≡ accepted + count_by is_accept rest →
    count_by is_forged (answers key commands) ≡ forged + count_by is_forged rest →
    rest ≡ [] →
    end_text (length commands) accepted forged ≡ end_text (length (answers key commands)) (count_by is_accept (answers key commands)) (count_by is_forged (answers key commands))
end_same key commands rest accepted forged accepts forgeries none =
    let all = sym (length-answers_after key [] commands) in
    let a = count_end is_accept (answers key commands) rest accepted accepts none in
    let f = count_end is_forged (answers key commands) rest forged forgeries none in
    λ i. end_text (all i) (a i) (f i)
