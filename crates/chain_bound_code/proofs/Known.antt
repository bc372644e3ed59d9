-- `Learnt` is what the code gives, and no hypothesis: of either open, quarter, close, year and either renewal, called by name, a caller knows it by the
-- function's own theorem.
use mathlib.Core.Path.{◌≡◌}
use mathlib.Core.List.{List}
use Prim.Native.Nat.{ℕ}
use prog.Routine.{Env, Callee}
use prog.Wired.{Wired}
use borrow.Fn.Kind.{ParamKind, ResultKind}
use borrow.Fn.Kinds.{In, Out}
use borrow.Fn.Plain.{Known}
use borrow.Fn.Run.{Over}
use borrow.Fn.World.{World}
use Rattle.chain.proofs.Chain.quarter.Kinds as quarter-kinds
use Rattle.chain.proofs.Chain.quarter.Reads as quarter-reads
use Rattle.chain.proofs.Chain.quarter.Met as quarter-theorem
use Rattle.chain.proofs.Chain.quarter.Symbol as quarter-symbol
use Rattle.chain.proofs.Chain.close.Kinds as close-kinds
use Rattle.chain.proofs.Chain.close.Reads as close-reads
use Rattle.chain.proofs.Chain.close.Met as close-theorem
use Rattle.chain.proofs.Chain.close.Symbol as close-symbol
use Rattle.chain_open.proofs.«open».Kinds as open-kinds
use Rattle.chain_open.proofs.«open».Reads as open-reads
use Rattle.chain_open.proofs.«open».Met as open-theorem
use Rattle.chain_open.proofs.«open».Symbol as open-symbol
use Rattle.chain_open.proofs.Panel.«open».Kinds as panel-kinds
use Rattle.chain_open.proofs.Panel.«open».Reads as panel-reads
use Rattle.chain_open.proofs.Panel.«open».Met as panel-theorem
use Rattle.chain_open.proofs.Panel.«open».Symbol as panel-symbol
use Rattle.chain_renew.proofs.renew.Kinds as renew-kinds
use Rattle.chain_renew.proofs.renew.Reads as renew-reads
use Rattle.chain_renew.proofs.renew.Met as renew-theorem
use Rattle.chain_renew.proofs.renew.Symbol as renew-symbol
use Rattle.chain_renew.proofs.renew_lent.Kinds as renew-lent-kinds
use Rattle.chain_renew.proofs.renew_lent.Reads as renew-lent-reads
use Rattle.chain_renew.proofs.renew_lent.Met as renew-lent-theorem
use Rattle.chain_renew.proofs.renew_lent.Symbol as renew-lent-symbol
use Rattle.chain_year.proofs.year.Kinds as year-kinds
use Rattle.chain_year.proofs.year.Reads as year-reads
use Rattle.chain_year.proofs.year.Met as year-theorem
use Rattle.chain_year.proofs.year.Symbol as year-symbol

-- in any model w of the machine in which the function and what it calls mean their code, and any environment γ in which its name means the same
module _ (w : World) (γ : Env) where
  abbrev KnownBy : (n : ℕ) (ps : List (ParamKind n)) (r : ResultKind n) → In n ps → Out n ps r → Callee → Type 1
  KnownBy = Known w.𝓛 (Over w.𝓛 w.𝓜 w.𝓡 γ)

  pub open_known : Wired w.𝓡.env open-symbol.code → γ open-symbol.name ≡ w.𝓡.env open-symbol.name →
      KnownBy 2 open-kinds.ps open-kinds.r open-reads.Asked open-reads.Learnt open-symbol.name
  open_known wired same =
      open-reads.known w γ open-symbol.name (w.𝓡.env open-symbol.name) same (open-theorem.met w.𝓤 w.𝓛 w.𝓜 w.𝓡 wired)

  pub panel_known : Wired w.𝓡.env panel-symbol.code → γ panel-symbol.name ≡ w.𝓡.env panel-symbol.name →
      KnownBy 2 panel-kinds.ps panel-kinds.r panel-reads.Asked panel-reads.Learnt panel-symbol.name
  panel_known wired same =
      panel-reads.known w γ panel-symbol.name (w.𝓡.env panel-symbol.name) same (panel-theorem.met w.𝓤 w.𝓛 w.𝓜 w.𝓡 wired)

  pub quarter_known : Wired w.𝓡.env quarter-symbol.code → γ quarter-symbol.name ≡ w.𝓡.env quarter-symbol.name →
      KnownBy 1 quarter-kinds.ps quarter-kinds.r quarter-reads.Asked quarter-reads.Learnt quarter-symbol.name
  quarter_known wired same =
      quarter-reads.known w γ quarter-symbol.name (w.𝓡.env quarter-symbol.name) same (quarter-theorem.met w.𝓤 w.𝓛 w.𝓜 w.𝓡 wired)

  pub close_known : Wired w.𝓡.env close-symbol.code → γ close-symbol.name ≡ w.𝓡.env close-symbol.name →
      KnownBy 1 close-kinds.ps close-kinds.r close-reads.Asked close-reads.Learnt close-symbol.name
  close_known wired same =
      close-reads.known w γ close-symbol.name (w.𝓡.env close-symbol.name) same (close-theorem.met w.𝓤 w.𝓛 w.𝓜 w.𝓡 wired)

  pub year_known : Wired w.𝓡.env year-symbol.code → γ year-symbol.name ≡ w.𝓡.env year-symbol.name →
      KnownBy 6 year-kinds.ps year-kinds.r year-reads.Asked year-reads.Learnt year-symbol.name
  year_known wired same =
      year-reads.known w γ year-symbol.name (w.𝓡.env year-symbol.name) same (year-theorem.met w.𝓤 w.𝓛 w.𝓜 w.𝓡 wired)

  pub renew_known : Wired w.𝓡.env renew-symbol.code → γ renew-symbol.name ≡ w.𝓡.env renew-symbol.name →
      KnownBy 2 renew-kinds.ps renew-kinds.r renew-reads.Asked renew-reads.Learnt renew-symbol.name
  renew_known wired same =
      renew-reads.known w γ renew-symbol.name (w.𝓡.env renew-symbol.name) same (renew-theorem.met w.𝓤 w.𝓛 w.𝓜 w.𝓡 wired)

  pub renew_lent_known : Wired w.𝓡.env renew-lent-symbol.code → γ renew-lent-symbol.name ≡ w.𝓡.env renew-lent-symbol.name →
      KnownBy 3 renew-lent-kinds.ps renew-lent-kinds.r renew-lent-reads.Asked renew-lent-reads.Learnt renew-lent-symbol.name
  renew_lent_known wired same =
      renew-lent-reads.known w γ renew-lent-symbol.name (w.𝓡.env renew-lent-symbol.name) same (renew-lent-theorem.met w.𝓤 w.𝓛 w.𝓜 w.𝓡 wired)
