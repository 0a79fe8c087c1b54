use Rattle.std.proofs.Common.{rules, ◌≡◌, ℕ, map, vec_items, sym, ap, ◌∙◌}
use Rattle.std.specs.List.{zip}
use Rattle.std.proofs.lemmas.Iterator.{YieldsList-from_slice, YieldsList-from_zip, YieldsList-from_map, items_from_collect}
use Rattle.std.proofs.lemmas.Result.{IfOk-weaker}
use Rattle.std.proofs.lemmas.Simd.{map-map}
use Rattle.std.proofs.lemmas.Slice.Zip.{firsts-zip, seconds-zip}
use Rattle.sss.specs.declared.MaskedWord.{MaskedWord}
use Rattle.sss.specs.Directions.{mask_of, text_of}
use Rattle.vectors.proofs.vector.masked.Goals as goal

abbrev word : ℕ × ℕ → MaskedWord
word p = record { mask = p.0; text = p.1 }

pub returns : goal.returns
returns c =
    let masks = c.args.masks.now in
    let texts = c.args.texts.now in
    let made = items_from_collect c.collect.result c.collect.ensures.ran (YieldsList-from_map _ word (YieldsList-from_zip (YieldsList-from_slice masks cc) (YieldsList-from_slice texts cc)) c.map.ensures.closure (λ x r q k. search rules)) in
    record {
      masks = IfOk-weaker c.collect.result (λ v. vec_items v ≡ map word (zip masks texts)) (λ v. map mask_of (vec_items v) ≡ masks) (λ v all. ap (map mask_of) all ∙ map-map mask_of word (zip masks texts) ∙ firsts-zip masks texts (sym c.requires)) made;
      texts = IfOk-weaker c.collect.result (λ v. vec_items v ≡ map word (zip masks texts)) (λ v. map text_of (vec_items v) ≡ texts) (λ v all. ap (map text_of) all ∙ map-map text_of word (zip masks texts) ∙ seconds-zip masks texts (sym c.requires)) made;
    }
