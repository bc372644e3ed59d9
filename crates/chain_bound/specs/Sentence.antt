-- D and the bound spelt out, with no record of an exact side: from the arguments of the openings, the relatives of the closes accepted before a call,
-- and the call's own (document 01, demand 3; document 02, [7] and [11]).
use Rattle.std.specs.Prelude.{ℕ, suc, ◌+◌, ◌*◌, List, [], ◌∷◌, ◌++◌, length}
use Rattle.rules.specs.Limits.{relative_scale}
use Rattle.rules.specs.Lists.{sum, products}
use Rattle.rules.specs.Chain.{Call}
use Rattle.rules.specs.Panel.{Panel}
use Rattle.rules.specs.Events.{Event}
use Rattle.rules.specs.Direct.{exact_shared, extra_by, if_closed}

-- ---- which panels there were
-- a panel, and the relatives of its accepted closes in turn
pub record Stay : Type 0 where
  pub panel : Panel
  pub closes : List (List ℕ)

-- the panels before a call: those that were left, the last one first, and the one that gives the figure
pub record Course : Type 0 where
  pub left : List Stay
  pub present : Stay

-- a panel without a close
abbrev pub begun : List Stay → Panel → Course
begun left p = record { left = left; present = record { panel = p; closes = [] } }

abbrev pub closed_by : List ℕ → Course → Course
closed_by ps c = record { left = c.left; present = record { panel = c.present.panel; closes = c.present.closes ++ ps ∷ [] } }

-- the panels after a list of events
abbrev pub course_after : Course → List Event → Course
course_after c [] = c
course_after c (Event.refused n ∷ rest) = course_after c rest
course_after c (Event.answered (Call.quarter ps) f ∷ rest) = course_after c rest
course_after c (Event.answered (Call.close ps) f ∷ rest) = course_after (closed_by ps c) rest
course_after c (Event.renewed p ∷ rest) = course_after (begun (c.present ∷ c.left) p) rest

-- ---- a panel's mean
-- the exact opening weights e, over a scale that e and E share, so that it cancels: W × g × a without an outside share
abbrev pub exact_of : Panel → List ℕ
exact_of p = products (exact_shared p.outside p.base p.shares) p.updates

-- "each e becomes e × p / 100,000": e × p after each of the closes …
abbrev pub exact_after : List ℕ → List (List ℕ) → List ℕ
exact_after es [] = es
exact_after es (ps ∷ later) = exact_after (products es ps) later

-- … over 100,000 for each
abbrev pub scale_after : List (List ℕ) → ℕ
scale_after [] = 1
scale_after (ps ∷ later) = relative_scale * scale_after later

-- "Of a panel that was left, only its accepted closes enter the product": the sum of its e after them, over E
abbrev pub stay_top : Stay → ℕ
stay_top s = sum (exact_after (exact_of s.panel) s.closes)

abbrev pub stay_bottom : Stay → ℕ
stay_bottom s = scale_after s.closes * sum (exact_of s.panel)

-- ---- D
-- a number times the means of the panels left
abbrev pub times_tops : ℕ → List Stay → ℕ
times_tops x [] = x
times_tops x (s ∷ left) = times_tops x left * stay_top s

abbrev pub times_bottoms : ℕ → List Stay → ℕ
times_bottoms x [] = x
times_bottoms x (s ∷ left) = times_bottoms x left * stay_bottom s

-- "the first start index times the product of the panels' means": the present one's is "the sum of (e × p / 100,000) / E"
abbrev pub direct_top : ℕ → Course → List ℕ → ℕ
direct_top start c ps = times_tops (start * sum (products (exact_after (exact_of c.present.panel) c.present.closes) ps)) c.left

abbrev pub direct_bottom : Course → ℕ
direct_bottom c = times_bottoms (scale_after c.present.closes * relative_scale * sum (exact_of c.present.panel)) c.left

-- ---- the bound
-- "m is the number of accepted closes of all panels before this call, plus one"
abbrev pub closes_of : List Stay → ℕ
closes_of [] = 0
closes_of (s ∷ left) = length s.closes + closes_of left

abbrev pub m_of : Course → ℕ
m_of c = suc (length c.present.closes + closes_of c.left)

-- "one (two with an outside share) for each panel that has an accepted close …"
abbrev pub extra_of : Panel → ℕ
extra_of p = extra_by p.outside p.base

abbrev pub left_extra : List Stay → ℕ
left_extra [] = 0
left_extra (s ∷ left) = left_extra left + if_closed (length s.closes) (extra_of s.panel)

-- "… or gives the figure"
abbrev pub allowance : Course → ℕ
allowance c = m_of c + (left_extra c.left + extra_of c.present.panel)

-- ---- one panel
-- no renewal was accepted
abbrev pub OnePanel : List Event → Type 0
OnePanel [] = Unit
OnePanel (Event.refused n ∷ rest) = OnePanel rest
OnePanel (Event.answered call f ∷ rest) = OnePanel rest
OnePanel (Event.renewed p ∷ rest) = ⊥

-- the relatives of the accepted closes, in turn
abbrev pub closes_in : List Event → List (List ℕ)
closes_in [] = []
closes_in (Event.refused n ∷ rest) = closes_in rest
closes_in (Event.answered (Call.quarter ps) f ∷ rest) = closes_in rest
closes_in (Event.answered (Call.close ps) f ∷ rest) = ps ∷ closes_in rest
closes_in (Event.renewed p ∷ rest) = closes_in rest

-- "the start index given to the open × the sum of (e × p / 100,000) / E"
abbrev pub panel_top : List ℕ → ℕ → List (List ℕ) → List ℕ → ℕ
panel_top es start closes ps = start * sum (products (exact_after es closes) ps)

abbrev pub panel_bottom : List ℕ → List (List ℕ) → ℕ
panel_bottom es closes = scale_after closes * relative_scale * sum es

-- "m is 1" at the open and "grows by one" at an accepted close
abbrev pub m_after : List (List ℕ) → ℕ
m_after closes = suc (length closes)
