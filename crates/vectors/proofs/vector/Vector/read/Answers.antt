use Rattle.std.proofs.Common.{vec_items, sym, ◌∙◌, subst, arith}
use Rattle.std.proofs.lemmas.Result.{err_from_is_err_and}
use Rattle.fields.specs.Reading.{FieldBytes}
use Rattle.vectors.specs.declared.vector.Field.TheVariants.{Key, Nonce, Masks, Plaintext, Wire, Tag}
use Rattle.vectors.specs.declared.vector.Malformed.TheVariants.{InField}
use Rattle.vectors.specs.Fields.{FieldTag, FieldWords, NoTag, Readable, texts_of}
use Rattle.vectors.specs.Lines.{text_at}
use Rattle.fields.proofs.Placed.{ok_of}
use Rattle.vectors.proofs.Before.{Ahead, each, not_read}
use Rattle.vectors.proofs.Placed.{bytes_of, words_of}
use Rattle.vectors.proofs.vector.Vector.read.Goals as goal
use Rattle.vectors.proofs.vector.Vector.read.Goals.{then-len-via-then-len, then-len-via-else-len+then-len-2}

pub returns-in_err-key : goal.returns-in_err-key
returns-in_err-key c =
    let f = c.args.fields in
    let texts = texts_of f in
    let p = err_from_is_err_and c.from_residual.result c.from_residual.ensures.1 in
    let before = each (Ahead texts Key)
    (λ l. absurd (omega (arith, l)))
    (λ l. absurd (omega (arith, l)))
    (λ l. absurd (omega (arith, l)))
    (λ l. absurd (omega (arith, l)))
    (λ l. absurd (omega (arith, l)))
    (λ l. absurd (omega (arith, l))) in
    record { value = rw (p.1, p.2) (not_read texts Key (λ v. FieldBytes f.key.now (vec_items v)) c.field_bytes.result _ c.in_err-key.ensures.value c.field_bytes.ensures.value before) }

pub returns-in_err-nonce : goal.returns-in_err-nonce
returns-in_err-nonce c =
    let f = c.args.fields in
    let texts = texts_of f in
    let p = err_from_is_err_and c.from_residual-in_err-nonce.result c.from_residual-in_err-nonce.ensures.1 in
    let before = each (Ahead texts Nonce)
    (λ l. (vec_items c.in_ok-key.key, bytes_of Key f.key.now c.field_bytes.result _ c.in_ok-key.ensures.value c.field_bytes.ensures.value))
    (λ l. absurd (omega (arith, l)))
    (λ l. absurd (omega (arith, l)))
    (λ l. absurd (omega (arith, l)))
    (λ l. absurd (omega (arith, l)))
    (λ l. absurd (omega (arith, l))) in
    record { value = rw (p.1, p.2) (not_read texts Nonce (λ v. FieldBytes f.nonce.now (vec_items v)) c.field_bytes-2.result _ c.in_err-nonce.ensures.value c.field_bytes-2.ensures.value before) }

pub returns-in_err-masks : goal.returns-in_err-masks
returns-in_err-masks c =
    let f = c.args.fields in
    let texts = texts_of f in
    let p = err_from_is_err_and c.from_residual-in_err-masks.result c.from_residual-in_err-masks.ensures.1 in
    let before = each (Ahead texts Masks)
    (λ l. (vec_items c.in_ok-key.key, bytes_of Key f.key.now c.field_bytes.result _ c.in_ok-key.ensures.value c.field_bytes.ensures.value))
    (λ l. (vec_items c.in_ok-nonce.nonce, bytes_of Nonce f.nonce.now c.field_bytes-2.result _ c.in_ok-nonce.ensures.value c.field_bytes-2.ensures.value))
    (λ l. absurd (omega (arith, l)))
    (λ l. absurd (omega (arith, l)))
    (λ l. absurd (omega (arith, l)))
    (λ l. absurd (omega (arith, l))) in
    record { value = rw (p.1, p.2) (not_read texts Masks (λ v. FieldWords f.masks.now (vec_items v)) c.field_words.result _ c.in_err-masks.ensures.value c.field_words.ensures.value before) }

pub returns-in_err-plaintext : goal.returns-in_err-plaintext
returns-in_err-plaintext c =
    let f = c.args.fields in
    let texts = texts_of f in
    let p = err_from_is_err_and c.from_residual-in_err-plaintext.result c.from_residual-in_err-plaintext.ensures.1 in
    let before = each (Ahead texts Plaintext)
    (λ l. (vec_items c.in_ok-key.key, bytes_of Key f.key.now c.field_bytes.result _ c.in_ok-key.ensures.value c.field_bytes.ensures.value))
    (λ l. (vec_items c.in_ok-nonce.nonce, bytes_of Nonce f.nonce.now c.field_bytes-2.result _ c.in_ok-nonce.ensures.value c.field_bytes-2.ensures.value))
    (λ l. (vec_items c.in_ok-masks.masks, words_of Masks f.masks.now c.field_words.result _ c.in_ok-masks.ensures.value c.field_words.ensures.value))
    (λ l. absurd (omega (arith, l)))
    (λ l. absurd (omega (arith, l)))
    (λ l. absurd (omega (arith, l))) in
    record { value = rw (p.1, p.2) (not_read texts Plaintext (λ v. FieldWords f.plaintext.now (vec_items v)) c.field_words-2.result _ c.in_err-plaintext.ensures.value c.field_words-2.ensures.value before) }

pub returns-in_err-wire : goal.returns-in_err-wire
returns-in_err-wire c =
    let f = c.args.fields in
    let texts = texts_of f in
    let p = err_from_is_err_and c.from_residual-in_err-wire.result c.from_residual-in_err-wire.ensures.1 in
    let before = each (Ahead texts Wire)
    (λ l. (vec_items c.in_ok-key.key, bytes_of Key f.key.now c.field_bytes.result _ c.in_ok-key.ensures.value c.field_bytes.ensures.value))
    (λ l. (vec_items c.in_ok-nonce.nonce, bytes_of Nonce f.nonce.now c.field_bytes-2.result _ c.in_ok-nonce.ensures.value c.field_bytes-2.ensures.value))
    (λ l. (vec_items c.in_ok-masks.masks, words_of Masks f.masks.now c.field_words.result _ c.in_ok-masks.ensures.value c.field_words.ensures.value))
    (λ l. (vec_items c.in_ok-plaintext.plaintext, words_of Plaintext f.plaintext.now c.field_words-2.result _ c.in_ok-plaintext.ensures.value c.field_words-2.ensures.value))
    (λ l. absurd (omega (arith, l)))
    (λ l. absurd (omega (arith, l))) in
    record { value = rw (p.1, p.2) (not_read texts Wire (λ v. FieldWords f.wire.now (vec_items v)) c.field_words-3.result _ c.in_err-wire.ensures.value c.field_words-3.ensures.value before) }

pub returns-in_err-tag : goal.returns-in_err-tag
returns-in_err-tag c =
    let f = c.args.fields in
    let texts = texts_of f in
    let p = err_from_is_err_and c.from_residual-in_err-tag.result c.from_residual-in_err-tag.ensures.1 in
    let before = each (Ahead texts Tag)
    (λ l. (vec_items c.in_ok-key.key, bytes_of Key f.key.now c.field_bytes.result _ c.in_ok-key.ensures.value c.field_bytes.ensures.value))
    (λ l. (vec_items c.in_ok-nonce.nonce, bytes_of Nonce f.nonce.now c.field_bytes-2.result _ c.in_ok-nonce.ensures.value c.field_bytes-2.ensures.value))
    (λ l. (vec_items c.in_ok-masks.masks, words_of Masks f.masks.now c.field_words.result _ c.in_ok-masks.ensures.value c.field_words.ensures.value))
    (λ l. (vec_items c.in_ok-plaintext.plaintext, words_of Plaintext f.plaintext.now c.field_words-2.result _ c.in_ok-plaintext.ensures.value c.field_words-2.ensures.value))
    (λ l. (vec_items c.in_ok-wire.wire, words_of Wire f.wire.now c.field_words-3.result _ c.in_ok-wire.ensures.value c.field_words-3.ensures.value))
    (λ l. absurd (omega (arith, l))) in
    record { value = rw (p.1, p.2) (not_read texts Tag (FieldTag f.tag.now) c.field_tag.result _ c.in_err-tag.ensures.value c.field_tag.ensures.value before) }

pub returns-then-len : goal.returns-then-len
returns-then-len c =
    let masks = c.in_ok-masks.masks in
    let plaintext = c.in_ok-plaintext.plaintext in
    let wire = c.in_ok-wire.wire in
    let f = c.args.fields in
    record {
      value = (
        each (λ field. Readable field (text_at (texts_of f) field))
            (vec_items c.in_ok-key.key, bytes_of Key f.key.now c.field_bytes.result _ c.in_ok-key.ensures.value c.field_bytes.ensures.value)
            (vec_items c.in_ok-nonce.nonce, bytes_of Nonce f.nonce.now c.field_bytes-2.result _ c.in_ok-nonce.ensures.value c.field_bytes-2.ensures.value)
            (vec_items masks, words_of Masks f.masks.now c.field_words.result _ c.in_ok-masks.ensures.value c.field_words.ensures.value)
            (vec_items plaintext, words_of Plaintext f.plaintext.now c.field_words-2.result _ c.in_ok-plaintext.ensures.value c.field_words-2.ensures.value)
            (vec_items wire, words_of Wire f.wire.now c.field_words-3.result _ c.in_ok-wire.ensures.value c.field_words-3.ensures.value)
            (c.in_ok-tag.tag, ok_of (FieldTag f.tag.now) (NoTag f.tag.now) (InField Tag) c.field_tag.result _ c.in_ok-tag.ensures.value c.field_tag.ensures.value),
        vec_items masks,
        vec_items plaintext,
        vec_items wire,
        words_of Masks f.masks.now c.field_words.result masks c.in_ok-masks.ensures.value c.field_words.ensures.value,
        words_of Plaintext f.plaintext.now c.field_words-2.result plaintext c.in_ok-plaintext.ensures.value c.field_words-2.ensures.value,
        words_of Wire f.wire.now c.field_words-3.result wire c.in_ok-wire.ensures.value c.field_words-3.ensures.value,
        λ a b. elim c.then-len.branch [ then-len-via-then-len w ↦ omega (arith, w.if-len.true, c.len.ensures, c.len-2.ensures, masks.ok.0, plaintext.ok.0) | then-len-via-else-len+then-len-2 w ↦ omega (arith, w.if-len-2.true, w.len-else-len.ensures, w.len-else-len-2.ensures, masks.ok.0, wire.ok.0) ],
      );
    }

pub returns : goal.returns
returns c =
    let f = c.args.fields in
    let masks = words_of Masks f.masks.now c.field_words.result _ c.in_ok-masks.ensures.value c.field_words.ensures.value in
    record {
      value = (
        bytes_of Key f.key.now c.field_bytes.result _ c.in_ok-key.ensures.value c.field_bytes.ensures.value,
        bytes_of Nonce f.nonce.now c.field_bytes-2.result _ c.in_ok-nonce.ensures.value c.field_bytes-2.ensures.value,
        subst (FieldWords f.masks.now) (sym (c.in_ok-plaintext-2.ensures.masks ∙ c.deref.ensures.value)) masks,
        subst (FieldWords f.masks.now) (sym (c.in_ok-wire-2.ensures.masks ∙ c.deref-3.ensures.value)) masks,
        subst (FieldWords f.plaintext.now) (sym (c.in_ok-plaintext-2.ensures.texts ∙ c.deref-2.ensures.value)) (words_of Plaintext f.plaintext.now c.field_words-2.result _ c.in_ok-plaintext.ensures.value c.field_words-2.ensures.value),
        subst (FieldWords f.wire.now) (sym (c.in_ok-wire-2.ensures.texts ∙ c.deref-4.ensures.value)) (words_of Wire f.wire.now c.field_words-3.result _ c.in_ok-wire.ensures.value c.field_words-3.ensures.value),
        ok_of (FieldTag f.tag.now) (NoTag f.tag.now) (InField Tag) c.field_tag.result _ c.in_ok-tag.ensures.value c.field_tag.ensures.value,
      );
    }
