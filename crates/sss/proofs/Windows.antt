-- The sixteen older words of a register, seen through a window on a longer list, and the newest behind them.
use Rattle.std.proofs.Common.{◌≡◌, ℕ, ◌+◌, ◌<◌, ◌≤◌, List, [], ◌∷◌, ◌++◌, length, get_or, take, drop, set, sym, ap, ◌∙◌, arith}
use Rattle.std.proofs.Math.Seq.{take-set-lt}
use Rattle.std.proofs.lemmas.List.{get_or-take, get_or-drop, get_or_append_left, get_or-append_right, set-append_left, set-append_right, drop-set-add, take_more_set, drop-take, drop-drop, drop-append-le, length-take, length-drop}

-- The window that begins at s, and the register's words.
abbrev pub window : ℕ → List ℕ → List ℕ
window s xs = take 16 (drop s xs)

abbrev pub view : ℕ → List ℕ → ℕ → List ℕ
view s xs newest = window s xs ++ newest ∷ []

pub window_length : (s : ℕ) (xs : List ℕ) → s + 16 ≤ length xs → length (window s xs) ≡ 16
window_length s xs h = length-take 16 (drop s xs) ∙ omega (arith, length-drop s xs)

pub view_at : (s : ℕ) (xs : List ℕ) (newest i : ℕ) → s + 16 ≤ length xs → i < 16 → get_or (view s xs newest) i 0 ≡ get_or xs (s + i) 0
view_at s xs newest i long h =
    get_or_append_left (window s xs) (newest ∷ []) 0 i (omega (arith, window_length s xs long)) ∙ get_or-take 16 (drop s xs) i 0 h ∙ get_or-drop s xs i 0

pub view_newest : (s : ℕ) (xs : List ℕ) (newest : ℕ) → s + 16 ≤ length xs → get_or (view s xs newest) 16 0 ≡ newest
view_newest s xs newest long = get_or-append_right (window s xs) (newest ∷ []) 16 16 0 (window_length s xs long) (omega arith)

pub view_newest_put : (s : ℕ) (xs : List ℕ) (newest w : ℕ) → s + 16 ≤ length xs → view s xs w ≡ set (view s xs newest) 16 w
view_newest_put s xs newest w long = sym (set-append_right (window s xs) (newest ∷ []) 16 16 w (window_length s xs long) (omega arith))

pub view_put : (s : ℕ) (xs : List ℕ) (newest i w : ℕ) → s + 16 ≤ length xs → i < 16 →
    view s (set xs (s + i) w) newest ≡ set (view s xs newest) i w
view_put s xs newest i w long h =
    ap (λ (ys : List ℕ). take 16 ys ++ newest ∷ []) (drop-set-add s xs i w) ∙ ap (λ (ys : List ℕ). ys ++ newest ∷ []) (take-set-lt 16 (drop s xs) i w h) ∙
    sym (set-append_left (window s xs) (newest ∷ []) i w (omega (arith, window_length s xs long)))

-- The newest word goes into the list, the window moves on, and another word is the newest.
pub view_push : (s : ℕ) (xs : List ℕ) (newest w : ℕ) → s + 16 < length xs →
    view (s + 1) (set xs (s + 16) newest) w ≡ drop 1 (view s xs newest) ++ w ∷ []
view_push s xs newest w h =
    let rest : List ℕ = drop (s + 1) xs in
    let place : s + 16 ≡ s + 1 + 15 = omega arith in
    let room : 15 < length rest = omega (arith, length-drop (s + 1) xs) in
    let long : s + 16 ≤ length xs = omega arith in
    let old : drop 1 (window s xs) ≡ take 15 rest = drop-take 1 15 (drop s xs) ∙ ap (take 15) (drop-drop 1 s xs) in
    let moved : window (s + 1) (set xs (s + 16) newest) ≡ take 15 rest ++ newest ∷ [] =
    ap (λ (k : ℕ). window (s + 1) (set xs k newest)) place ∙ ap (take 16) (drop-set-add (s + 1) xs 15 newest) ∙ take_more_set rest 15 newest room in
    let front : drop 1 (view s xs newest) ≡ drop 1 (window s xs) ++ newest ∷ [] =
    drop-append-le 1 (window s xs) (newest ∷ []) (omega (arith, window_length s xs long)) in
    ap (λ (ys : List ℕ). ys ++ w ∷ []) (moved ∙ ap (λ (ys : List ℕ). ys ++ newest ∷ []) (sym old) ∙ sym front)
