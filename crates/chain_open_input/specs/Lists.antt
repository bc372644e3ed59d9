-- The lists of an opening as the code has them: what the definitions say of W, g and a, said of the three together.
use Rattle.std.specs.Prelude.{ℕ, List}
use Rattle.chain_open_input.specs.declared.Lists.{Lists}

abbrev pub over : {A : Type 0} → (List ℕ → List ℕ → List ℕ → A) → Lists → A
over f l = f l.weights.now l.shares.now l.relatives.now
