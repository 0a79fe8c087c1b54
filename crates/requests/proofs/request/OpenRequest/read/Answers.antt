use Rattle.std.proofs.Common.{vec_items}
use Rattle.std.proofs.lemmas.Result.{err_from_is_err_and}
use Rattle.requests.specs.declared.field.Field.TheVariants.{Key, Nonce, Masks, Wire, Tag, Room}
use Rattle.fields.specs.Reading.{FieldBytes}
use Rattle.requests.specs.Fields.{LengthOf, NoBytes, NoLength}
use Rattle.requests.specs.declared.request.Unread.TheVariants.{InField}
use Rattle.fields.proofs.Placed.{err_of, ok_of}
use Rattle.requests.proofs.request.OpenRequest.read.Goals as goal

pub returns-in_err-in_field-4 : goal.returns-in_err-in_field-4
returns-in_err-in_field-4 c =
    let f = c.args.fields in
    let p = err_from_is_err_and c.from_residual-in_err-in_field-4.result c.from_residual-in_err-in_field-4.ensures.1 in
    let fault = err_of (λ v. FieldBytes f.input.now (vec_items v)) (NoBytes f.input.now) (InField Wire) c.bytes-4.result _ c.in_err-in_field-4.ensures c.bytes-4.ensures in
    rw (p.1, p.2) (
      Wire,
      fault.0,
      fault.1,
      (
        (vec_items c.in_ok-in_field.field-0, ok_of (λ v. FieldBytes f.key.now (vec_items v)) (NoBytes f.key.now) (InField Key) c.bytes.result c.in_ok-in_field.field-0 c.in_ok-in_field.ensures c.bytes.ensures),
        (vec_items c.in_ok-in_field-2.field-0, ok_of (λ v. FieldBytes f.nonce.now (vec_items v)) (NoBytes f.nonce.now) (InField Nonce) c.bytes-2.result c.in_ok-in_field-2.field-0 c.in_ok-in_field-2.ensures c.bytes-2.ensures),
        (vec_items c.in_ok-in_field-3.field-0, ok_of (λ v. FieldBytes f.masks.now (vec_items v)) (NoBytes f.masks.now) (InField Masks) c.bytes-3.result c.in_ok-in_field-3.field-0 c.in_ok-in_field-3.ensures c.bytes-3.ensures),
        fault.2,
      ),
    )

pub returns-in_err-in_field-5 : goal.returns-in_err-in_field-5
returns-in_err-in_field-5 c =
    let f = c.args.fields in
    let p = err_from_is_err_and c.from_residual-in_err-in_field-5.result c.from_residual-in_err-in_field-5.ensures.1 in
    let fault = err_of (λ v. FieldBytes f.sixth.now (vec_items v)) (NoBytes f.sixth.now) (InField Tag) c.bytes-5.result _ c.in_err-in_field-5.ensures c.bytes-5.ensures in
    rw (p.1, p.2) (
      Tag,
      fault.0,
      fault.1,
      (
        (vec_items c.in_ok-in_field.field-0, ok_of (λ v. FieldBytes f.key.now (vec_items v)) (NoBytes f.key.now) (InField Key) c.bytes.result c.in_ok-in_field.field-0 c.in_ok-in_field.ensures c.bytes.ensures),
        (vec_items c.in_ok-in_field-2.field-0, ok_of (λ v. FieldBytes f.nonce.now (vec_items v)) (NoBytes f.nonce.now) (InField Nonce) c.bytes-2.result c.in_ok-in_field-2.field-0 c.in_ok-in_field-2.ensures c.bytes-2.ensures),
        (vec_items c.in_ok-in_field-3.field-0, ok_of (λ v. FieldBytes f.masks.now (vec_items v)) (NoBytes f.masks.now) (InField Masks) c.bytes-3.result c.in_ok-in_field-3.field-0 c.in_ok-in_field-3.ensures c.bytes-3.ensures),
        (vec_items c.in_ok-in_field-4.field-0, ok_of (λ v. FieldBytes f.input.now (vec_items v)) (NoBytes f.input.now) (InField Wire) c.bytes-4.result c.in_ok-in_field-4.field-0 c.in_ok-in_field-4.ensures c.bytes-4.ensures),
        fault.2,
      ),
    )

pub returns-in_err-in_field-6 : goal.returns-in_err-in_field-6
returns-in_err-in_field-6 c =
    let f = c.args.fields in
    let p = err_from_is_err_and c.from_residual-in_err-in_field-6.result c.from_residual-in_err-in_field-6.ensures.1 in
    let fault = err_of (LengthOf f.seventh.now) (NoLength f.seventh.now) (InField Room) c.length.result _ c.in_err-in_field-6.ensures c.length.ensures in
    rw (p.1, p.2) (
      Room,
      fault.0,
      fault.1,
      (
        (vec_items c.in_ok-in_field.field-0, ok_of (λ v. FieldBytes f.key.now (vec_items v)) (NoBytes f.key.now) (InField Key) c.bytes.result c.in_ok-in_field.field-0 c.in_ok-in_field.ensures c.bytes.ensures),
        (vec_items c.in_ok-in_field-2.field-0, ok_of (λ v. FieldBytes f.nonce.now (vec_items v)) (NoBytes f.nonce.now) (InField Nonce) c.bytes-2.result c.in_ok-in_field-2.field-0 c.in_ok-in_field-2.ensures c.bytes-2.ensures),
        (vec_items c.in_ok-in_field-3.field-0, ok_of (λ v. FieldBytes f.masks.now (vec_items v)) (NoBytes f.masks.now) (InField Masks) c.bytes-3.result c.in_ok-in_field-3.field-0 c.in_ok-in_field-3.ensures c.bytes-3.ensures),
        (vec_items c.in_ok-in_field-4.field-0, ok_of (λ v. FieldBytes f.input.now (vec_items v)) (NoBytes f.input.now) (InField Wire) c.bytes-4.result c.in_ok-in_field-4.field-0 c.in_ok-in_field-4.ensures c.bytes-4.ensures),
        (vec_items c.in_ok-in_field-5.field-0, ok_of (λ v. FieldBytes f.sixth.now (vec_items v)) (NoBytes f.sixth.now) (InField Tag) c.bytes-5.result c.in_ok-in_field-5.field-0 c.in_ok-in_field-5.ensures c.bytes-5.ensures),
        fault.2,
      ),
    )
