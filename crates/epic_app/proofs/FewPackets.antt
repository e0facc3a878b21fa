-- The words ask for a limited number of packets, and for files whose names differ where they are written.
use Rattle.std.proofs.Common.{◌≡◌, ℕ, ◌≤◌, false, cond, List, [], ◌∷◌, Option, Some, None, Result, Ok, Err, refl, arith}
use Rattle.std.specs.Prelude.{codes, bytes_eq, option_and_then, ⊤}
use Rattle.std.proofs.lemmas.Bool.{cond_both}
use Rattle.std.proofs.lemmas.Bool.Decides.{nat_tests}
use Rattle.std.proofs.lemmas.Grind.{common_steps}
use Rattle.hex.specs.Hex.{decode_sized}
use Rattle.hex.specs.declared.error.FromHexError.{FromHexError}
use Rattle.epic_num.specs.Names.{number_of, within}
use Rattle.epic_words.specs.Request.{Request, RunRequest, Hop, Run, Gen, Judge, gen_of, gen_request, hop_of, hop_request, judge_of, number_in, request_of, run_of, run_request, shares_files, unless_shared}
use Rattle.epic_words.specs.RunCommand.{is_refused, rows_in, run_command}

-- at most so many packets, where it is `gen` that is asked for; and no file that is written has the name of another
abbrev pub HasFew : Option Request → Type 0
HasFew None = ⊤
HasFew (Some (Hop key name)) = ⊤
HasFew (Some (Run r)) = shares_files (Run r) ≡ false
HasFew (Some (Gen seed packets)) = packets ≤ 100000
HasFew (Some (Judge topology ledger verdicts)) = ⊤

few_hop : (name : List ℕ) (key : Result (List ℕ) FromHexError) → HasFew (hop_request name key)
few_hop name (Ok key) = tt
few_hop name (Err error) = tt

few_hops : (words : List (List ℕ)) → HasFew (hop_of words)
unfolding hop_of
few_hops [] = tt
few_hops (key ∷ []) = tt
few_hops (key ∷ name ∷ []) = few_hop name (decode_sized key 16)
few_hops (key ∷ name ∷ word ∷ words) = tt

few_run : (o : Option RunRequest) → HasFew (option_and_then unless_shared o)
few_run None = tt
few_run (Some r) = cond_both (shares_files (Run r)) None (Some (Run r)) HasFew (λ f. tt) (λ f. f)

few_runs : (words : List (List ℕ)) → HasFew (run_of words)
unfolding run_of
few_runs words =
    let r = run_request (rows_in run_command words) in
    cond_both (is_refused run_command words) None (option_and_then unless_shared r) HasFew (λ e. tt) (λ e. few_run r)

within_few : (o : Option ℕ) (n : ℕ) → within 1 100000 o ≡ Some n → n ≤ 100000
within_few None n is = absurd (cc)
within_few (Some m) n is = grind (arith, nat_tests, common_steps)

few_gen : (seed packets : Option ℕ) → ((n : ℕ) → packets ≡ Some n → n ≤ 100000) → HasFew (gen_request seed packets)
few_gen None packets few = tt
few_gen (Some seed) None few = tt
few_gen (Some seed) (Some packets) few = few packets refl

few_gens : (words : List (List ℕ)) → HasFew (gen_of words)
unfolding gen_of number_in
few_gens [] = tt
few_gens (seed ∷ []) = tt
few_gens (seed ∷ packets ∷ []) =
    few_gen (number_in 0 0xffff_ffff_ffff_ffff seed) (number_in 1 100000 packets) (λ n is. within_few (number_of packets) n is)
few_gens (seed ∷ packets ∷ word ∷ words) = tt

few_judge : (words : List (List ℕ)) → HasFew (judge_of words)
unfolding judge_of
few_judge [] = tt
few_judge (topology ∷ []) = tt
few_judge (topology ∷ ledger ∷ []) = tt
few_judge (topology ∷ ledger ∷ verdicts ∷ []) = tt
few_judge (topology ∷ ledger ∷ verdicts ∷ word ∷ words) = tt

pub few_requests : (words : List (List ℕ)) → HasFew (request_of words)
unfolding request_of
few_requests [] = tt
few_requests (command ∷ words) =
    let judges = cond {A = Option Request} (bytes_eq command (codes "judge")) (judge_of words) None in
    let gens = cond (bytes_eq command (codes "gen")) (gen_of words) judges in
    cond_both (bytes_eq command (codes "hop")) (hop_of words) (cond (bytes_eq command (codes "run")) (run_of words) gens) HasFew
    (λ e. few_hops words)
    (λ e. cond_both (bytes_eq command (codes "run")) (run_of words) gens HasFew
    (λ f. few_runs words)
    (λ f. cond_both (bytes_eq command (codes "gen")) (gen_of words) judges HasFew
    (λ g. few_gens words)
    (λ g. cond_both (bytes_eq command (codes "judge")) (judge_of words) None HasFew (λ h. few_judge words) (λ h. tt))))
