-- A byte that asks for no command stands alone.
use Prim.Native.Nat.{ℕ}
use mathlib.Core.Path.{◌≡◌, ap, ◌∙◌, sym}
use Rattle.std.proofs.Common.{Result, Ok, Err}
use Rattle.std.specs.Prelude.{MatchResult}
use Rattle.refusals.specs.declared.Refusal.{Refusal}
use Rattle.rules.specs.Stream.{width_of}
use Rattle.stream_read.specs.declared.Kind.{Kind}
use Rattle.stream_read.specs.Value.{byte_of, Reads}
use Rattle.stream_read.proofs.CommandBytes.{alone}
use Rattle.stream_read.proofs.width.Goals as goal

either : (k n : ℕ) (r : Result Kind Refusal) → Reads k r → MatchResult r (λ (x : Kind). n ≡ width_of (byte_of x)) (λ (e : Refusal). n ≡ 1) → n ≡ width_of k
either k n (Ok kind) reads e = e ∙ ap width_of reads
either k n (Err why) reads e = e ∙ sym (alone k reads.1)

pub returns : goal.returns
returns c = either _ _ _ c.try_from.ensures c.map_or.ensures
