-- What holds of every element of a list holds of each, of lists joined, and of a list mapped; and so does what follows from it.
use Rattle.std.proofs.Common.{ℕ, zero, suc, List, [], ◌∷◌, ◌++◌, map, get_or}
use Rattle.words.specs.Lists.{Every}

infixr 5 ◌&◌
-- the first element, and those after it
abbrev pub ◌&◌ : {A B : Type 0} → A → B → A × B
a & b = (a, b)

pub every_at : {A : Type 0} (P : A → Type 0) (l : List A) (n : ℕ) (d : A) → Every P l → P d → P (get_or l n d)
every_at P [] n d h i = i
every_at P (f ∷ fs) zero d h i = h.0
every_at P (f ∷ fs) (suc n) d h i = every_at P fs n d h.1 i

-- a list made of parts
abbrev pub joined : {A : Type 0} → List (List A) → List A
joined [] = []
joined (p ∷ ps) = p ++ joined ps

every_append : {A : Type 0} (P : A → Type 0) (l r : List A) → Every P l → Every P r → Every P (l ++ r)
every_append P [] r h k = k
every_append P (f ∷ fs) r h k = (h.0, every_append P fs r h.1 k)

pub every_joined : {A : Type 0} (P : A → Type 0) (ps : List (List A)) → Every (Every P) ps → Every P (joined ps)
every_joined P [] h = tt
every_joined P (p ∷ ps) h = every_append P p (joined ps) h.0 (every_joined P ps h.1)

pub every_map : {A B : Type 0} (g : A → B) (P : B → Type 0) (l : List A) → Every (λ x. P (g x)) l → Every P (map g l)
every_map g P [] h = tt
every_map g P (f ∷ fs) h = (h.0, every_map g P fs h.1)

pub every_so : {A : Type 0} {P Q : A → Type 0} → ((x : A) → P x → Q x) → (l : List A) → Every P l → Every Q l
every_so f [] h = tt
every_so f (x ∷ xs) h = (f x h.0, every_so f xs h.1)
