-- What a run makes of the files that it writes besides its output.
use Rattle.std.proofs.Common.{◌≡◌, ℕ, suc, Bool, true, false, cond, List, [], ◌∷◌, ◌++◌, map, flat_map, fold, length, drop, get_or, Option, Some, Contains, refl, sym, ap, subst, ◌∙◌, inl, inr, append_assoc, append-nil, bytes_eq, arith}
use Rattle.std.proofs.lemmas.List.Concat.{flat_map-append}
use Rattle.std.proofs.lemmas.Slice.Eq.{bytes_eq-Decides}
use Rattle.epic_ports.specs.Files.{bytes_or_none}
use Rattle.epic_text.specs.Counts.{counts_of, end_line}
use Rattle.epic_topo.specs.Network.{Network}
use Rattle.epic_world.specs.Run.{Done}
use Rattle.epic_app.specs.Showing.{Showing}
use Rattle.epic_app.specs.Acts.{Act, Print, Create, Append, after_act, appends, creates, prints}
use Rattle.epic_app.specs.Along.{along}
use Rattle.epic_app.specs.Captures.{shown}
use Rattle.epic_app.specs.Doing.{run_acts, step_acts}
use Rattle.epic_app.specs.Kept.{Kept, adding, grown, names, opened, opening, text_of}
use Rattle.epic_app.specs.KeptFiles.{FilesAreWhole, IsFrontOrOld, KeepsWhole}
use Rattle.epic_app.specs.RunReport.{all_verdicts, step_text}

-- ---- the acts on one file

-- those that make a file, or add to it
abbrev on : List ℕ → List Act → List Act
on name [] = []
on name (Print byte ∷ acts) = on name acts
on name (Create made ∷ acts) = cond (bytes_eq made name) (Create made ∷ on name acts) (on name acts)
on name (Append made byte ∷ acts) = cond (bytes_eq made name) (Append made byte ∷ on name acts) (on name acts)

cons_or : {A : Type 0} (b : Bool) (x : A) (xs ys : List A) → cond b (x ∷ (xs ++ ys)) (xs ++ ys) ≡ cond b (x ∷ xs) xs ++ ys
cons_or true x xs ys = refl
cons_or false x xs ys = refl

on-append : (name : List ℕ) (a b : List Act) → on name (a ++ b) ≡ on name a ++ on name b
on-append name [] b = refl
on-append name (Print byte ∷ a) b = on-append name a b
on-append name (Create made ∷ a) b =
    ap (λ acts. cond (bytes_eq made name) (Create made ∷ acts) acts) (on-append name a b)
    ∙ cons_or (bytes_eq made name) (Create made) (on name a) (on name b)
on-append name (Append made byte ∷ a) b =
    ap (λ acts. cond (bytes_eq made name) (Append made byte ∷ acts) acts) (on-append name a b)
    ∙ cons_or (bytes_eq made name) (Append made byte) (on name a) (on name b)

-- they alone change it
fold-on : (name : List ℕ) (held : Option (List ℕ)) (acts : List Act) → fold (after_act name) held acts ≡ fold (after_act name) held (on name acts)
unfolding after_act
fold-on name held [] = refl
fold-on name held (Print byte ∷ acts) = fold-on name held acts
fold-on name held (Create made ∷ acts) = by (bytes_eq made name) refl (λ h. fold-on name h acts)
  where
    by : (b : Bool) → bytes_eq made name ≡ b → ((h : Option (List ℕ)) → fold (after_act name) h acts ≡ fold (after_act name) h (on name acts))
        → fold (after_act name) (cond (bytes_eq made name) (Some []) held) acts
        ≡ fold (after_act name) held (cond (bytes_eq made name) (Create made ∷ on name acts) (on name acts))
    by true is again =
        ap (λ c. fold (after_act name) (cond c (Some []) held) acts) is
        ∙ (again (Some [])
        ∙ sym (ap (λ c. fold (after_act name) held (cond c (Create made ∷ on name acts) (on name acts))) is
        ∙ ap (λ c. fold (after_act name) (cond c (Some []) held) (on name acts)) is))
    by false is again =
        ap (λ c. fold (after_act name) (cond c (Some []) held) acts) is
        ∙ (again held ∙ sym (ap (λ c. fold (after_act name) held (cond c (Create made ∷ on name acts) (on name acts))) is))
fold-on name held (Append made byte ∷ acts) = by (bytes_eq made name) refl (λ h. fold-on name h acts)
  where
    by : (b : Bool) → bytes_eq made name ≡ b → ((h : Option (List ℕ)) → fold (after_act name) h acts ≡ fold (after_act name) h (on name acts))
        → fold (after_act name) (cond (bytes_eq made name) (Some (bytes_or_none held ++ byte ∷ [])) held) acts
        ≡ fold (after_act name) held (cond (bytes_eq made name) (Append made byte ∷ on name acts) (on name acts))
    by true is again =
        ap (λ c. fold (after_act name) (cond c (Some (bytes_or_none held ++ byte ∷ [])) held) acts) is
        ∙ (again (Some (bytes_or_none held ++ byte ∷ []))
        ∙ sym (ap (λ c. fold (after_act name) held (cond c (Append made byte ∷ on name acts) (on name acts))) is
        ∙ ap (λ c. fold (after_act name) (cond c (Some (bytes_or_none held ++ byte ∷ [])) held) (on name acts)) is))
    by false is again =
        ap (λ c. fold (after_act name) (cond c (Some (bytes_or_none held ++ byte ∷ [])) held) acts) is
        ∙ (again held ∙ sym (ap (λ c. fold (after_act name) held (cond c (Append made byte ∷ on name acts) (on name acts))) is))

same_name : (name : List ℕ) → bytes_eq name name ≡ true
same_name name = (bytes_eq-Decides name name).1 refl

differs : (name q : List ℕ) → (name ≡ q → ⊥) → bytes_eq name q ≡ false
differs name q other = by (bytes_eq name q) refl
  where
    by : (b : Bool) → bytes_eq name q ≡ b → bytes_eq name q ≡ false
    by true same = absurd (other ((bytes_eq-Decides name q).0 same))
    by false is = is

-- ---- texts

on-prints : (name text : List ℕ) → on name (prints text) ≡ []
unfolding prints
on-prints name [] = refl
on-prints name (byte ∷ text) = on-prints name text

on-itself : (name text : List ℕ) → on name (appends name text) ≡ appends name text
unfolding appends
on-itself name [] = refl
on-itself name (byte ∷ text) =
    ap (λ b. cond b (Append name byte ∷ on name (map (Append name) text)) (on name (map (Append name) text))) (same_name name)
    ∙ ap (λ acts. Append name byte ∷ acts) (on-itself name text)

on-other : (name q text : List ℕ) → bytes_eq name q ≡ false → on q (appends name text) ≡ []
unfolding appends
on-other name q [] other = refl
on-other name q (byte ∷ text) other =
    ap (λ b. cond b (Append name byte ∷ on q (map (Append name) text)) (on q (map (Append name) text))) other ∙ on-other name q text other

appends-both : (name a b : List ℕ) → appends name (a ++ b) ≡ appends name a ++ appends name b
unfolding appends
appends-both name [] b = refl
appends-both name (byte ∷ a) b = ap (λ acts. Append name byte ∷ acts) (appends-both name a b)

appends-none : (name : List ℕ) → appends name [] ≡ []
unfolding appends
appends-none name = refl

-- a file that grows by a text
grows_by : (name held text : List ℕ) → fold (after_act name) (Some held) (appends name text) ≡ Some (held ++ text)
unfolding appends after_act
grows_by name held [] = ap Some (sym (append-nil held))
grows_by name held (byte ∷ text) =
    ap (λ b. fold (after_act name) (cond b (Some (held ++ byte ∷ [])) (Some held)) (map (Append name) text)) (same_name name)
    ∙ (grows_by name (held ++ byte ∷ []) text ∙ ap Some (append_assoc held (byte ∷ []) text))

-- and that is made before
made_with : (name : List ℕ) (old : Option (List ℕ)) (text : List ℕ) → fold (after_act name) old (Create name ∷ appends name text) ≡ Some text
unfolding after_act
made_with name old text =
    ap (λ b. fold (after_act name) (cond b (Some []) old) (appends name text)) (same_name name) ∙ grows_by name [] text

-- a front of acts that add a text adds a front of it
front_of : (name text : List ℕ) (a b : List Act) → appends name text ≡ a ++ b
    → (front : List ℕ) × (back : List ℕ) × (text ≡ front ++ back) × (a ≡ appends name front)
unfolding appends
front_of name text [] b is = ([], text, refl, refl)
front_of name [] (x ∷ a) b is = absurd (cc)
front_of name (byte ∷ text) (x ∷ a) b is =
    let first : Append name byte ≡ x = ap (λ acts. get_or acts 0 (Append name byte)) is in
    let (front, back, parts, rest) = front_of name text a b (ap (drop 1) is) in
    (byte ∷ front, back, ap (λ bytes. byte ∷ bytes) parts, λ k. sym first k ∷ rest k)

-- ---- files

not_first : (f : Kept) (kept : List Kept) (q : List ℕ) → ¬ Contains (names (f ∷ kept)) q → f.name ≡ q → ⊥
not_first f kept q absent e = absent (0, omega arith, e)

not_later : (f : Kept) (kept : List Kept) (q : List ℕ) → ¬ Contains (names (f ∷ kept)) q → ¬ Contains (names kept) q
not_later f kept q absent = λ (i, within, is). absent (suc i, omega (arith, within), is)

on-create : (name q : List ℕ) → bytes_eq name q ≡ false → on q (creates name) ≡ []
unfolding creates
on-create name q other = ap (λ b. cond {A = List Act} b (Create name ∷ []) []) other

on-opened : (f : Kept) (q : List ℕ) → bytes_eq f.name q ≡ false → on q (opened f) ≡ []
on-opened f q other =
    on-append q (creates f.name) (appends f.name f.head)
    ∙ ((λ k. on-create f.name q other k ++ on-other f.name q f.head other k))

-- nothing is made of a file that none of these is
on-opening : (kept : List Kept) (q : List ℕ) → ¬ Contains (names kept) q → on q (opening kept) ≡ []
unfolding opening
on-opening [] q absent = refl
on-opening (f ∷ kept) q absent =
    on-append q (opened f) (opening kept)
    ∙ (λ k. on-opened f q (differs f.name q (not_first f kept q absent)) k ++ on-opening kept q (not_later f kept q absent) k)

on-adding : (kept : List Kept) (t : Network) (d : Done) (q : List ℕ) → ¬ Contains (names kept) q → on q (adding kept t d) ≡ []
unfolding adding
on-adding [] t d q absent = refl
on-adding (f ∷ kept) t d q absent =
    on-append q (grown t d f) (adding kept t d)
    ∙ (λ k. on-other f.name q (f.adds t d) (differs f.name q (not_first f kept q absent)) k ++ on-adding kept t d q (not_later f kept q absent) k)

module _ (others : List Kept) (f : Kept) (more : List Kept) (show : Showing) (t : Network)
    (differ : ¬ Contains (names others) f.name) (differ_too : ¬ Contains (names more) f.name) where
  abbrev all : List Kept
  all = others ++ f ∷ more

  this-opening : on f.name (opening all) ≡ Create f.name ∷ appends f.name f.head
  unfolding opening creates
  this-opening =
      ap (on f.name) (flat_map-append opened others (f ∷ more))
      ∙ (on-append f.name (opening others) (opening (f ∷ more))
      ∙ ((λ k. on-opening others f.name differ k ++ on f.name (opening (f ∷ more)))
      ∙ (on-append f.name (opened f) (opening more)
      ∙ ((λ k. on f.name (opened f) ++ on-opening more f.name differ_too k)
      ∙ (append-nil (on f.name (opened f))
      ∙ (ap (λ b. cond b (Create f.name ∷ on f.name (appends f.name f.head)) (on f.name (appends f.name f.head))) (same_name f.name)
      ∙ ap (λ acts. Create f.name ∷ acts) (on-itself f.name f.head)))))))

  this-adding : (d : Done) → on f.name (adding all t d) ≡ appends f.name (f.adds t d)
  unfolding adding
  this-adding d =
      ap (on f.name) (flat_map-append (grown t d) others (f ∷ more))
      ∙ (on-append f.name (adding others t d) (adding (f ∷ more) t d)
      ∙ ((λ k. on-adding others t d f.name differ k ++ on f.name (adding (f ∷ more) t d))
      ∙ (on-append f.name (grown t d f) (adding more t d)
      ∙ ((λ k. on f.name (grown t d f) ++ on-adding more t d f.name differ_too k)
      ∙ (append-nil (on f.name (grown t d f)) ∙ on-itself f.name (f.adds t d))))))

  this-step : (before : List Done) (d : Done) → on f.name (step_acts all show t before d) ≡ appends f.name (f.adds t d)
  unfolding step_acts
  this-step before d =
      on-append f.name (prints (step_text show t before d)) (adding all t d)
      ∙ (λ k. on-prints f.name (step_text show t before d) k ++ this-adding d k)

  this-along : (before steps : List Done) → on f.name (along (step_acts all show t) before steps) ≡ appends f.name (flat_map (f.adds t) steps)
  this-along before [] = sym (appends-none f.name)
  this-along before (d ∷ steps) =
      on-append f.name (step_acts all show t before d) (along (step_acts all show t) (before ++ d ∷ []) steps)
      ∙ ((λ k. this-step before d k ++ this-along (before ++ d ∷ []) steps k)
      ∙ sym (appends-both f.name (f.adds t d) (flat_map (f.adds t) steps)))

  this-run : (steps : List Done) → on f.name (run_acts all show t steps) ≡ Create f.name ∷ appends f.name (text_of f t steps)
  unfolding run_acts
  this-run steps =
      let acts = along (step_acts all show t) [] steps in
      let end = prints (end_line (counts_of (shown show.script (length steps)) (all_verdicts steps))) in
      let rest : on f.name (acts ++ end) ≡ appends f.name (flat_map (f.adds t) steps)
      = on-append f.name acts end
      ∙ ((λ k. on f.name acts ++ on-prints f.name (end_line (counts_of (shown show.script (length steps)) (all_verdicts steps))) k)
      ∙ (append-nil (on f.name acts) ∙ this-along [] steps)) in
      on-append f.name (opening all) (acts ++ end)
      ∙ ((λ k. this-opening k ++ rest k)
      ∙ ap (λ added. Create f.name ∷ added) (sym (appends-both f.name f.head (flat_map (f.adds t) steps))))

  is_front : (steps : List Done) (old : Option (List ℕ)) (a b : List Act) → Create f.name ∷ appends f.name (text_of f t steps) ≡ a ++ b
      → IsFrontOrOld (text_of f t steps) old (fold (after_act f.name) old a)
  is_front steps old [] b is = inl refl
  is_front steps old (x ∷ a) b is =
      let first : Create f.name ≡ x = ap (λ acts. get_or acts 0 (Create f.name)) is in
      let (front, back, parts, rest) = front_of f.name (text_of f t steps) a b (ap (drop 1) is) in
      inr (front, back, parts, (λ k. fold (after_act f.name) old (sym first k ∷ rest k)) ∙ made_with f.name old front)

  pub this_whole : (steps : List Done) → KeepsWhole others f more show t steps
  this_whole steps = record {
    whole = λ old.
        fold-on f.name old (run_acts all show t steps)
        ∙ (ap (fold (after_act f.name) old) (this-run steps) ∙ made_with f.name old (text_of f t steps));
    front = λ old before after order.
        let parts = sym (this-run steps) ∙ (ap (on f.name) order ∙ on-append f.name before after) in
        subst (IsFrontOrOld (text_of f t steps) old) (sym (fold-on f.name old before))
        (is_front steps old (on f.name before) (on f.name after) parts);
  }

-- ---- other files

module _ (kept : List Kept) (show : Showing) (t : Network) (q : List ℕ) (absent : ¬ Contains (names kept) q) where
  other-step : (before : List Done) (d : Done) → on q (step_acts kept show t before d) ≡ []
  unfolding step_acts
  other-step before d =
      on-append q (prints (step_text show t before d)) (adding kept t d)
      ∙ (λ k. on-prints q (step_text show t before d) k ++ on-adding kept t d q absent k)

  other-along : (before steps : List Done) → on q (along (step_acts kept show t) before steps) ≡ []
  other-along before [] = refl
  other-along before (d ∷ steps) =
      on-append q (step_acts kept show t before d) (along (step_acts kept show t) (before ++ d ∷ []) steps)
      ∙ (λ k. other-step before d k ++ other-along (before ++ d ∷ []) steps k)

  other-run : (steps : List Done) → on q (run_acts kept show t steps) ≡ []
  unfolding run_acts
  other-run steps =
      let acts = along (step_acts kept show t) [] steps in
      let line = end_line (counts_of (shown show.script (length steps)) (all_verdicts steps)) in
      on-append q (opening kept) (acts ++ prints line)
      ∙ ((λ k. on-opening kept q absent k ++ on q (acts ++ prints line))
      ∙ (on-append q acts (prints line) ∙ (λ k. other-along [] steps k ++ on-prints q line k)))

nothing_before : {A : Type 0} (a b : List A) → [] ≡ a ++ b → a ≡ []
nothing_before [] b is = refl
nothing_before (x ∷ a) b is = absurd (cc)

pub files_are_whole : FilesAreWhole
files_are_whole = record {
  kept = λ others f more show t steps differ differ_too. this_whole others f more show t differ differ_too steps;
  others = λ kept show t steps q absent old before after order.
      let parts : [] ≡ on q before ++ on q after = sym (other-run kept show t q absent steps) ∙ (ap (on q) order ∙ on-append q before after) in
      fold-on q old before ∙ ap (fold (after_act q) old) (nothing_before (on q before) (on q after) parts);
}
