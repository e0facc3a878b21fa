-- What is made of steps in turn.
use Rattle.std.proofs.Common.{◌≡◌, List, [], ◌∷◌, ◌++◌, sym, ap, ◌∙◌, append-nil, append_assoc}
use Rattle.epic_world.specs.Run.{Done}
use Rattle.epic_app.specs.Along.{along}

-- of steps in two parts
pub along-append : {A : Type 0} (f : List Done → Done → List A) (before xs ys : List Done)
    → along f before (xs ++ ys) ≡ along f before xs ++ along f (before ++ xs) ys
along-append f before [] ys = ap (λ front. along f front ys) (sym (append-nil before))
along-append f before (x ∷ xs) ys =
    ap (λ more. f before x ++ more)
    (along-append f (before ++ x ∷ []) xs ys
    ∙ ap (λ front. along f (before ++ x ∷ []) xs ++ along f front ys) (append_assoc before (x ∷ []) xs))
    ∙ sym (append_assoc (f before x) (along f (before ++ x ∷ []) xs) (along f (before ++ (x ∷ xs)) ys))

-- one more at the end
pub along-last : {A : Type 0} (f : List Done → Done → List A) (before xs : List Done) (y : Done)
    → along f before (xs ++ y ∷ []) ≡ along f before xs ++ f (before ++ xs) y
along-last f before xs y =
    along-append f before xs (y ∷ [])
    ∙ ap (λ more. along f before xs ++ more) (append-nil (f (before ++ xs) y))
