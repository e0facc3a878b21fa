-- What acts write to the output and make of files.
use Rattle.std.proofs.Common.{◌≡◌, ℕ, Bool, true, false, cond, List, [], ◌∷◌, ◌++◌, map, fold, Option, Some, None, refl, sym, ap, subst, ◌∙◌, append_assoc, bytes_eq}
use Rattle.std.proofs.lemmas.List.Sums.{fold-append}
use Rattle.std.proofs.lemmas.Slice.Eq.{bytes_eq-Decides}
use Rattle.epic_ports.specs.Files.{Files, KeepsFiles, Grows, Replaces, bytes_or_none}
use Rattle.epic_ports.specs.Written.{Appends}
use Rattle.epic_ports.proofs.Appended.{Appends-trans}
use Rattle.epic_app.specs.Acts.{Act, Print, Create, Append, World, FilesBecome, Does, after_act, appends, creates, printed, prints}

-- ---- acts in a row

pub printed-append : (a b : List Act) → printed (a ++ b) ≡ printed a ++ printed b
unfolding printed
printed-append [] b = refl
printed-append (Print byte ∷ a) b = ap (λ more. byte ∷ more) (printed-append a b)
printed-append (Create name ∷ a) b = printed-append a b
printed-append (Append name byte ∷ a) b = printed-append a b

become_both : (a b : List Act) (u v w : Option Files) → FilesBecome a u v → FilesBecome b v w → FilesBecome (a ++ b) u w
become_both a b None v w first next = tt
become_both a b (Some f) None w first next = absurd first
become_both a b (Some f) (Some g) None first next = absurd next
become_both a b (Some f) (Some g) (Some h) first next = λ name.
    next name ∙ (ap (λ held. fold (after_act name) held b) (first name) ∙ sym (fold-append (after_act name) (f name) a b))

-- these were done and then those
pub does_both : (a b : List Act) (u v w : World) → Does a u v → Does b v w → Does (a ++ b) u w
does_both a b u v w first next = record {
  output = let P = Appends u.written w.written in subst P (sym (printed-append a b)) (Appends-trans u.written v.written w.written (printed a) (printed b) first.output next.output);
  files = become_both a b u.contents v.contents w.contents first.files next.files;
}

-- ---- texts on the output

pub printed-prints : (text : List ℕ) → printed (prints text) ≡ text
unfolding printed prints
printed-prints [] = refl
printed-prints (byte ∷ text) = ap (λ more. byte ∷ more) (printed-prints text)

pub prints-append : (a b : List ℕ) → prints (a ++ b) ≡ prints a ++ prints b
unfolding prints
prints-append [] b = refl
prints-append (byte ∷ a) b = ap (λ more. Print byte ∷ more) (prints-append a b)

-- a text up to a byte of it
pub prints-before : (front : List ℕ) (byte : ℕ) (back : List ℕ) → prints (front ++ byte ∷ back) ≡ prints front ++ Print byte ∷ prints back
unfolding prints
prints-before [] byte back = refl
prints-before (first ∷ front) byte back = ap (λ more. Print first ∷ more) (prints-before front byte back)

files_same : (name : List ℕ) (held : Option (List ℕ)) (text : List ℕ) → fold (after_act name) held (prints text) ≡ held
unfolding prints after_act
files_same name held [] = refl
files_same name held (byte ∷ text) = files_same name held text

pub files_stay : (old new : Option Files) (text : List ℕ) → KeepsFiles old new → FilesBecome (prints text) old new
files_stay None new text keeps = tt
files_stay (Some old) None text keeps = absurd keeps
files_stay (Some old) (Some new) text keeps = λ name. ap (λ (files : Files). files name) keeps ∙ sym (files_same name (old name) text)

pub does_text : (text : List ℕ) (old new : World) → KeepsFiles old.contents new.contents → Appends old.written new.written text → Does (prints text) old new
does_text text old new keeps written = record {
  output = let P = Appends old.written new.written in subst P (sym (printed-prints text)) written;
  files = files_stay old.contents new.contents text keeps;
}

pub does_nothing : (old new : World) → KeepsFiles old.contents new.contents → Appends old.written new.written [] → Does [] old new
unfolding prints
does_nothing old new keeps written = does_text [] old new keeps written

-- ---- bytes that are added to a file

printed-grown : (name text : List ℕ) → printed (map (Append name) text) ≡ []
unfolding printed
printed-grown name [] = refl
printed-grown name (byte ∷ text) = printed-grown name text

-- another file stays
grown_other : (name q : List ℕ) (held : Option (List ℕ)) (text : List ℕ) → bytes_eq name q ≡ false → fold (after_act q) held (map (Append name) text) ≡ held
unfolding after_act
grown_other name q held [] other = refl
grown_other name q held (byte ∷ text) other =
    let P : Bool → Type 0 = λ b. fold (after_act q) (cond b (Some (bytes_or_none held ++ byte ∷ [])) held) (map (Append name) text) ≡ held in
    subst P (sym other) (grown_other name q held text other)

-- the file itself grows
grown_itself : (name : List ℕ) (held : Option (List ℕ)) (byte : ℕ) (text : List ℕ) → bytes_eq name name ≡ true
    → fold (after_act name) held (map (Append name) (byte ∷ text)) ≡ Some (bytes_or_none held ++ byte ∷ text)
unfolding after_act
grown_itself name held byte [] same =
    ap (λ b. cond {A = Option (List ℕ)} b (Some (bytes_or_none held ++ byte ∷ [])) held) same
grown_itself name held byte (next ∷ text) same =
    let P : Bool → Type 0 = λ b. fold (after_act name) (cond b (Some (bytes_or_none held ++ byte ∷ [])) held) (map (Append name) (next ∷ text)) ≡ Some (bytes_or_none held ++ byte ∷ next ∷ text) in
    subst P (sym same) (grown_itself name (Some (bytes_or_none held ++ byte ∷ [])) next text same ∙ ap Some (append_assoc (bytes_or_none held) (byte ∷ []) (next ∷ text)))

same_name : (name : List ℕ) → bytes_eq name name ≡ true
same_name name = (bytes_eq-Decides name name).1 refl

replaced : (f g : Files) (name : List ℕ) (byte : ℕ) (text : List ℕ) → Replaces (Some f) (Some g) name (bytes_or_none (f name) ++ byte ∷ text)
    → (q : List ℕ) → g q ≡ fold (after_act q) (f q) (map (Append name) (byte ∷ text))
replaced f g name byte text (is, others) q = by (bytes_eq name q) refl
  where
    by : (b : Bool) → bytes_eq name q ≡ b → g q ≡ fold (after_act q) (f q) (map (Append name) (byte ∷ text))
    by true same =
        let e : name ≡ q = (bytes_eq-Decides name q).0 same in
        let P : List ℕ → Type 0 = λ r. g r ≡ fold (after_act r) (f r) (map (Append name) (byte ∷ text)) in
        subst P e (is ∙ sym (grown_itself name (f name) byte text (same_name name)))
    by false other =
        others q (λ e. cc (other, (bytes_eq-Decides name q).1 (sym e))) ∙ sym (grown_other name q (f q) (byte ∷ text) other)

grown_files : (old new : Option Files) (name text : List ℕ) → Grows old new name text → FilesBecome (map (Append name) text) old new
grown_files None new name text grows = tt
grown_files (Some f) None name [] grows = absurd grows
grown_files (Some f) None name (byte ∷ text) grows = absurd grows
grown_files (Some f) (Some g) name [] grows = λ q. ap (λ (files : Files). files q) grows
grown_files (Some f) (Some g) name (byte ∷ text) grows = replaced f g name byte text grows

pub does_grow : (name text : List ℕ) (old new : World) → Grows old.contents new.contents name text → Appends old.written new.written []
    → Does (appends name text) old new
unfolding appends
does_grow name text old new grows written = record {
  output = let P = Appends old.written new.written in subst P (sym (printed-grown name text)) written;
  files = grown_files old.contents new.contents name text grows;
}

-- a text up to a byte of it, and to a place in it
pub appends-before : (name front : List ℕ) (byte : ℕ) (back : List ℕ)
    → appends name (front ++ byte ∷ back) ≡ appends name front ++ Append name byte ∷ appends name back
unfolding appends
appends-before name [] byte back = refl
appends-before name (first ∷ front) byte back = ap (λ more. Append name first ∷ more) (appends-before name front byte back)

-- ---- a file that is made empty

emptied : (f g : Files) (name : List ℕ) → Replaces (Some f) (Some g) name [] → (q : List ℕ) → g q ≡ fold (after_act q) (f q) (Create name ∷ [])
unfolding after_act
emptied f g name (is, others) q = by (bytes_eq name q) refl
  where
    by : (b : Bool) → bytes_eq name q ≡ b → g q ≡ cond (bytes_eq name q) (Some []) (f q)
    by true same =
        let e : name ≡ q = (bytes_eq-Decides name q).0 same in
        let P : List ℕ → Type 0 = λ r. g r ≡ Some [] in
        subst P e is ∙ ap (λ b. cond {A = Option (List ℕ)} b (Some []) (f q)) (sym same)
    by false other =
        others q (λ e. cc (other, (bytes_eq-Decides name q).1 (sym e))) ∙ ap (λ b. cond {A = Option (List ℕ)} b (Some []) (f q)) (sym other)

emptied_files : (old new : Option Files) (name : List ℕ) → Replaces old new name [] → FilesBecome (Create name ∷ []) old new
emptied_files None new name is = tt
emptied_files (Some f) None name is = absurd is
emptied_files (Some f) (Some g) name is = emptied f g name is

pub does_create : (name : List ℕ) (old new : World) → Replaces old.contents new.contents name [] → Appends old.written new.written [] → Does (creates name) old new
unfolding creates printed
does_create name old new is written = record { output = written; files = emptied_files old.contents new.contents name is }
