use Rattle.std.proofs.Common.{◌≡◌, ap, ◌∙◌, Ok}
use Rattle.std.proofs.lemmas.Bool.Decides.{Decides-eqb}
use Rattle.std.proofs.lemmas.Slice.Eq.{slice_eq-Decides}
use Rattle.link.specs.Issuing.{nonce_bytes}
use Rattle.link.specs.declared.issuer.Nonce.{Nonce}
use Rattle.figures.proofs.KnownFigures.{figure}
use Rattle.figures.proofs.issuing.third_of_run_one.Goals as goal

pub returns : goal.returns
returns c =
    let said = c.in_ok-third_nonce.ensures in
    let third : ◌≡◌ {A = Nonce} c.in_ok-third_nonce.field-0 (record { run = 1; message = 2 }) =
    λ i. record { run = said.0 i; message = said.1 i } in
    ap Ok ((slice_eq-Decides Decides-eqb _ _ _ c.eq.ensures).1 (c.bytes.ensures ∙ ap nonce_bytes third ∙ figure 17))
