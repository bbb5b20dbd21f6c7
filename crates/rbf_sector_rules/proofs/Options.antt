-- What is said twice of an option.
use Rattle.std.proofs.Common.{◌≡◌, Option, Some, None}

-- it is not nothing and something
pub none_some : {A : Type 0} (a : A) (o : Option A) → o ≡ None → o ≡ Some a → ⊥
none_some a o none some = cc

-- what it has is one
pub some_same : {A : Type 0} (a b : A) (o : Option A) → o ≡ Some a → o ≡ Some b → a ≡ b
some_same a b o one other = cc
