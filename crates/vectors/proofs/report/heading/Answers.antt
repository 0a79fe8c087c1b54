use Rattle.std.proofs.Common.{◌≡◌, ◌++◌, codes, vec_items, vec_len, count_by, ◌∙◌, ap, subst}
use Rattle.std.specs.Fmt.{decimal}
use Rattle.std.proofs.lemmas.Result.{on_ok_weaker}
use Rattle.std.specs.Io.KnownBytes.{Appends}
use Rattle.sss.specs.Bytes.{bytes_of_words}
use Rattle.fields.specs.Texts.{hex_text, numbered}
use Rattle.vectors.specs.Masks.{mask_is}
use Rattle.sss.specs.declared.mask.MaskKind.TheVariants.{Sealed, Open, Part}
use Rattle.vectors.specs.Reports.{words_of}
use Rattle.vectors.proofs.Texts.{heading_is}
use Rattle.vectors.proofs.report.heading.Goals as goal

pub returns : goal.returns
returns g c =
    let v = c.args.vector.now in
    let n = decimal c.args.number in
    let length : c.len-length.result ≡ vec_len v.key = c.len-length.ensures in
    let nonce : c.deref.result.now ≡ vec_items v.nonce = c.deref.ensures.value in
    let sealed : c.count-sealed.result ≡ words_of Sealed v = c.count-sealed.ensures ∙ ap (count_by (mask_is Sealed)) c.deref-2.ensures.value in
    let unsealed : c.count-unsealed.result ≡ words_of Open v = c.count-unsealed.ensures ∙ ap (count_by (mask_is Open)) c.deref-3.ensures.value in
    let part : c.count-part.result ≡ words_of Part v = c.count-part.ensures ∙ ap (count_by (mask_is Part)) c.deref-4.ensures.value in
    let verdict = c.verdict-verdict.ensures in
    let whole =
    heading_is n (decimal c.len-length.result) (hex_text c.deref.result.now) (decimal c.count-sealed.result) (decimal c.count-unsealed.result) (decimal c.count-part.result) (hex_text (bytes_of_words v.tag)) c.verdict-verdict.result.now
    ∙ (λ i. numbered c.args.number (codes "key " ++ decimal (length i) ++ codes " bytes, nonce " ++ hex_text (nonce i) ++ codes ", words " ++ decimal (sealed i) ++ codes " sealed " ++ decimal (unsealed i) ++ codes " open " ++ decimal (part i) ++ codes " part, tag " ++ hex_text (bytes_of_words v.tag) ++ codes "; wire, plaintext and tag " ++ verdict i ++ codes " in all 10 ways")) in
    on_ok_weaker c.writeln.result (subst (Appends (g.W.Write.contents c.args.writer.now) (g.W.Write.contents c.writeln.new.self)) whole) c.writeln.ensures.bytes
