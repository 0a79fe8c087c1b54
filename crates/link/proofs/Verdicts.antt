-- The test of a tag.
use Rattle.std.proofs.Common.{◌≡◌, ℕ, Bool, cond, List, Decides, sym, ap, ◌∙◌}
use Rattle.std.proofs.lemmas.Bool.Decides.{same_from_decides}
use Rattle.std.specs.Str.{bytes_eq}
use Rattle.std.proofs.lemmas.Slice.Eq.{bytes_eq-Decides}
use Rattle.link.specs.Receiving.{verdict_of}
use Rattle.link.specs.declared.reception.Release.{Release}
use Rattle.link.specs.declared.reception.Release.TheVariants.{HandOut}
use Rattle.link.specs.declared.reception.Verdict.TheVariants.{Agrees, Differs}

-- The verdict where one is given, by any test of the tag received against the tag drawn.
pub judged : (received drawn defined : List ℕ) (equal : Bool) (release : Release) → Decides equal (received ≡ drawn) → drawn ≡ defined →
    release ≡ HandOut → cond equal Agrees Differs ≡ verdict_of release received defined
judged received drawn defined equal release test is out =
    ap (λ (b : Bool). cond b Agrees Differs) (same_from_decides equal (bytes_eq received drawn) test (bytes_eq-Decides received drawn)) ∙
    ap (λ (t : List ℕ). cond (bytes_eq received t) Agrees Differs) is ∙ ap (λ (r : Release). verdict_of r received defined) (sym out)
