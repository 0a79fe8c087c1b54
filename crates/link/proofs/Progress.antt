-- The loop over a list of calls: with the calls still to come, the history so far is the history of all calls.
use Rattle.std.proofs.Common.{◌≡◌, ℕ, suc, ◌+◌, ◌<◌, ◌≤◌, List, [], ◌∷◌, length, IfErr, Ok, Err, vec_len, vec_capacity, fold, Result, Vec, sym, ap, ◌∙◌, subst, inl, inr, arith}
use Rattle.std.specs.declared.alloc.Global.{Global}
use Rattle.std.proofs.lemmas.Bool.{cases_lt}
use Rattle.std.specs.List.{AllByRecursion as Every}
use Rattle.sss.specs.Cipher.{OneToOne}
use Rattle.link.specs.Ends.{registers_of, Ends, CallFits, history, new_ends, one_call}
use Rattle.link.specs.Log.{stretches}
use Rattle.link.specs.Histories.{SameOnWords}
use Rattle.link.specs.Law.{Law, Withholds}
use Rattle.link.specs.declared.call.Call.{Call}
use Rattle.link.specs.declared.call.Entry.{Entry}
use Rattle.link.proofs.Loss.{law}
use Rattle.link.proofs.Runs.{history_run}

abbrev pub ToCome : (f A f' A' : ℕ → ℕ) → Ends × List Entry → List Call → Ends × List Entry → List Call → Type 0
ToCome f A f' A' start all now rest = fold (one_call f A f' A') now rest ≡ fold (one_call f A f' A') start all

pub to_come_by : (f A f' A' g B g' B' : ℕ → ℕ) (start now : Ends × List Entry) (all rest : List Call) → f ≡ g → A ≡ B → f' ≡ g' → A' ≡ B' →
    ToCome f A f' A' start all now rest → ToCome g B g' B' start all now rest
to_come_by f A f' A' g B g' B' start now all rest ef eA ef' eA' so =
    subst (λ (z : ℕ → ℕ). ToCome g B g' z start all now rest) eA'
    (subst (λ (z : ℕ → ℕ). ToCome g B z A' start all now rest) ef'
    (subst (λ (z : ℕ → ℕ). ToCome g z f' A' start all now rest) eA (subst (λ (z : ℕ → ℕ). ToCome z A f' A' start all now rest) ef so)))

pub to_come_more : (f A f' A' : ℕ → ℕ) (start now next : Ends × List Entry) (all rest rest' : List Call) (x : Call) →
    ToCome f A f' A' start all now rest → rest ≡ x ∷ rest' → next ≡ one_call f A f' A' now x → ToCome f A f' A' start all next rest'
to_come_more f A f' A' start now next all rest rest' x so first step =
    ap (λ (h : Ends × List Entry). fold (one_call f A f' A') h rest') step ∙ sym (ap (fold (one_call f A f' A') now) first) ∙ so

pub to_come_none : (f A f' A' : ℕ → ℕ) (start now : Ends × List Entry) (all rest calls : List Call) → ToCome f A f' A' start all now rest →
    length rest ≡ 0 → start ≡ (new_ends, []) → all ≡ calls → now ≡ history f A f' A' calls
unfolding history
to_come_none f A f' A' start now all [] calls so none new given =
    so ∙ ap (λ (h : Ends × List Entry). fold (one_call f A f' A') h all) new ∙ ap (fold (one_call f A f' A') (new_ends, [])) given
to_come_none f A f' A' start now all (x ∷ xs) calls so none new given = absurd (omega arith)

-- Where the log had room for all calls, it has room for those still to come.
abbrev pub Enough : Vec Entry Global → List Call → Vec Entry Global → List Call → Type 0
Enough start all now rest = vec_len start + length all ≤ vec_capacity start → vec_len now + length rest ≤ vec_capacity now

pub enough_more : (start now next : Vec Entry Global) (all rest rest' : List Call) (x : Call) → Enough start all now rest → rest ≡ x ∷ rest' →
    vec_len next ≡ vec_len now + 1 → vec_capacity now ≤ vec_capacity next → Enough start all next rest'
enough_more start now next all rest rest' x so first longer room h =
    let long : length rest ≡ suc (length rest') = ap length first in
    omega (arith, so h)

-- A log that is full before the last call had less room than there are calls.
pub too_small : (start now given : Vec Entry Global) (all rest rest' : List Call) (n : ℕ) (x : Call) → Enough start all now rest → rest ≡ x ∷ rest' →
    vec_capacity now ≤ vec_len now → vec_len start ≡ 0 → vec_capacity start ≡ vec_capacity given → length all ≡ n → vec_capacity given < n
too_small start now given all rest rest' n x so first full empty same count =
    elim (cases_lt (vec_capacity given) n) [
      | inl less ↦ less
      | inr enough ↦
          let long : length rest ≡ suc (length rest') = ap length first in
          absurd (omega (arith, so (omega arith)))
    ]

pub refused_by : {X Y : Type 0} {P : Type 0} (r : Result X Y) → P → IfErr r (λ _. P)
refused_by (Ok x) p = tt
refused_by (Err e) p = p

pub fits_more : (rest rest' : List Call) (x : Call) → rest ≡ x ∷ rest' → CallFits x → Every CallFits rest' → Every CallFits rest
fits_more rest rest' x first one more = subst (Every CallFits) (sym first) (one, more)

pub fits_none : (rest : List Call) → length rest ≡ 0 → Every CallFits rest
fits_none [] none = tt
fits_none (x ∷ xs) none = absurd (omega arith)

-- The law holds of a history with one function and one coefficient.
pub history_law : (f A f' A' : ℕ → ℕ) → OneToOne f → OneToOne A → f ≡ f' → SameOnWords A A' → (calls : List Call) → Every CallFits calls →
    (h : Ends × List Entry) → h ≡ history f A f' A' calls → Every Withholds (stretches h.1) → Law f A h.1 (registers_of h.0.sealer) h.0.receiver.registers
history_law f A f' A' onef oneA same-f same_A calls fits h is withheld =
    let one : history f A f A' calls ≡ h = ap (λ (z : ℕ → ℕ). history f A z A' calls) same-f ∙ sym is in
    subst (λ (z : Ends × List Entry). Law f A z.1 (registers_of z.0.sealer) z.0.receiver.registers) one
    (law f A onef oneA (subst (λ (z : Ends × List Entry). Every Withholds (stretches z.1)) (sym one) withheld) (history_run f A onef oneA A' same_A calls fits))
