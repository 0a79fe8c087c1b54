use Rattle.std.proofs.Common.{vec_items}
use Rattle.std.proofs.lemmas.Result.{err_from_is_err_and}
use Rattle.requests.specs.declared.field.Field.TheVariants.{Key, Nonce, Masks, Plaintext, Room, TagRoom}
use Rattle.fields.specs.Reading.{FieldBytes}
use Rattle.requests.specs.Fields.{LengthOf, NoBytes, NoLength, NoNonce, NonceBytes}
use Rattle.requests.specs.declared.request.Unread.TheVariants.{InField}
use Rattle.fields.proofs.Placed.{err_of, ok_of}
use Rattle.requests.proofs.request.SealRequest.read.Goals as goal

pub returns-in_err-in_field-4 : goal.returns-in_err-in_field-4
returns-in_err-in_field-4 c =
    let f = c.args.fields in
    let p = err_from_is_err_and c.from_residual-in_err-in_field-4.result c.from_residual-in_err-in_field-4.ensures.1 in
    let fault = err_of (λ v. FieldBytes f.input.now (vec_items v)) (NoBytes f.input.now) (InField Plaintext) c.bytes-3.result _ c.in_err-in_field-4.ensures c.bytes-3.ensures in
    rw (p.1, p.2) (
      Plaintext,
      fault.0,
      fault.1,
      (
        (vec_items c.in_ok-in_field.field-0, ok_of (λ v. FieldBytes f.key.now (vec_items v)) (NoBytes f.key.now) (InField Key) c.bytes.result c.in_ok-in_field.field-0 c.in_ok-in_field.ensures c.bytes.ensures),
        (c.in_ok-in_field-2.field-0, ok_of (NonceBytes f.nonce.now) (NoNonce f.nonce.now) (InField Nonce) c.nonce.result c.in_ok-in_field-2.field-0 c.in_ok-in_field-2.ensures c.nonce.ensures),
        (vec_items c.in_ok-in_field-3.field-0, ok_of (λ v. FieldBytes f.masks.now (vec_items v)) (NoBytes f.masks.now) (InField Masks) c.bytes-2.result c.in_ok-in_field-3.field-0 c.in_ok-in_field-3.ensures c.bytes-2.ensures),
        fault.2,
      ),
    )

pub returns-in_err-in_field-5 : goal.returns-in_err-in_field-5
returns-in_err-in_field-5 c =
    let f = c.args.fields in
    let p = err_from_is_err_and c.from_residual-in_err-in_field-5.result c.from_residual-in_err-in_field-5.ensures.1 in
    let fault = err_of (LengthOf f.sixth.now) (NoLength f.sixth.now) (InField Room) c.length.result _ c.in_err-in_field-5.ensures c.length.ensures in
    rw (p.1, p.2) (
      Room,
      fault.0,
      fault.1,
      (
        (vec_items c.in_ok-in_field.field-0, ok_of (λ v. FieldBytes f.key.now (vec_items v)) (NoBytes f.key.now) (InField Key) c.bytes.result c.in_ok-in_field.field-0 c.in_ok-in_field.ensures c.bytes.ensures),
        (c.in_ok-in_field-2.field-0, ok_of (NonceBytes f.nonce.now) (NoNonce f.nonce.now) (InField Nonce) c.nonce.result c.in_ok-in_field-2.field-0 c.in_ok-in_field-2.ensures c.nonce.ensures),
        (vec_items c.in_ok-in_field-3.field-0, ok_of (λ v. FieldBytes f.masks.now (vec_items v)) (NoBytes f.masks.now) (InField Masks) c.bytes-2.result c.in_ok-in_field-3.field-0 c.in_ok-in_field-3.ensures c.bytes-2.ensures),
        (vec_items c.in_ok-in_field-4.field-0, ok_of (λ v. FieldBytes f.input.now (vec_items v)) (NoBytes f.input.now) (InField Plaintext) c.bytes-3.result c.in_ok-in_field-4.field-0 c.in_ok-in_field-4.ensures c.bytes-3.ensures),
        fault.2,
      ),
    )

pub returns-in_err-in_field-6 : goal.returns-in_err-in_field-6
returns-in_err-in_field-6 c =
    let f = c.args.fields in
    let p = err_from_is_err_and c.from_residual-in_err-in_field-6.result c.from_residual-in_err-in_field-6.ensures.1 in
    let fault = err_of (LengthOf f.seventh.now) (NoLength f.seventh.now) (InField TagRoom) c.length-2.result _ c.in_err-in_field-6.ensures c.length-2.ensures in
    rw (p.1, p.2) (
      TagRoom,
      fault.0,
      fault.1,
      (
        (vec_items c.in_ok-in_field.field-0, ok_of (λ v. FieldBytes f.key.now (vec_items v)) (NoBytes f.key.now) (InField Key) c.bytes.result c.in_ok-in_field.field-0 c.in_ok-in_field.ensures c.bytes.ensures),
        (c.in_ok-in_field-2.field-0, ok_of (NonceBytes f.nonce.now) (NoNonce f.nonce.now) (InField Nonce) c.nonce.result c.in_ok-in_field-2.field-0 c.in_ok-in_field-2.ensures c.nonce.ensures),
        (vec_items c.in_ok-in_field-3.field-0, ok_of (λ v. FieldBytes f.masks.now (vec_items v)) (NoBytes f.masks.now) (InField Masks) c.bytes-2.result c.in_ok-in_field-3.field-0 c.in_ok-in_field-3.ensures c.bytes-2.ensures),
        (vec_items c.in_ok-in_field-4.field-0, ok_of (λ v. FieldBytes f.input.now (vec_items v)) (NoBytes f.input.now) (InField Plaintext) c.bytes-3.result c.in_ok-in_field-4.field-0 c.in_ok-in_field-4.ensures c.bytes-3.ensures),
        (c.in_ok-in_field-5.field-0, ok_of (LengthOf f.sixth.now) (NoLength f.sixth.now) (InField Room) c.length.result c.in_ok-in_field-5.field-0 c.in_ok-in_field-5.ensures c.length.ensures),
        fault.2,
      ),
    )
