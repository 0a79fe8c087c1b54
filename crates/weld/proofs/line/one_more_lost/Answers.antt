use Rattle.std.proofs.Common.{◌≡◌, ℕ, ◌+◌, ◌≤◌, ◌↔◌, Bool, true, false, IsTrue, refl, ap, sym, subst}
use Rattle.std.specs.Bool.{OnTrue, OnFalse}
use Rattle.weld.specs.Lines.{CarriesOn, lost}
use Rattle.weld.specs.declared.line.Line.TheVariants.{Lost}
use Rattle.weld.specs.declared.places.Places.{Places}
use Rattle.weld.proofs.Consecutive.{lost_more}
use Rattle.weld.proofs.line.one_more_lost.Goals as goal

-- The places go on, or they are left as they were.
carried : (p p' : Places) (place mask : ℕ) (taken : Bool) → p.span.first ≤ p.span.last →
    (IsTrue taken ↔ ((place ≡ p.span.last + 1) × (mask ≡ p.mask))) →
    OnTrue taken (p' ≡ record { span = record { first = p.span.first; last = place }; mask = p.mask }) → OnFalse taken (p' ≡ p) →
    CarriesOn taken (Lost p) (lost place mask) (Lost p')
carried p p' place mask true h follows more left = lost_more (record { next = follows.0 refl; taken = more }) h
carried p p' place mask false h follows more left =
    record { telling = ap Lost left; fit = subst (λ (q : Places). q.span.first ≤ q.span.last) (sym left) h }

pub returns : goal.returns
returns c =
    let said = c.takes.ensures in
    carried c.args.places.now c.takes.new.self c.args.sent.now.place c.args.sent.now.mask c.takes.result c.requires said.follows said.taken said.left
