-- `book_options::turn` meets its contract: each way through the turn is one law of Walks.
use Rattle.std.proofs.Common.{◌≡◌, refl, sym, ap, ◌∙◌, ℕ, ◌+◌, ◌-◌, ◌*◌, ◌%◌, ◌<◌, List, arith}
use lib.ListN.{length, get_or, length-set}
use Rattle.book_format.specs.Format.{links, destinations}
use Rattle.book_format.proofs.Given.{link_prev_lem, link_prev_alt_lem}
use Rattle.book_options.specs.Options.{search_room}
use Rattle.book_options.specs.Turns.{Walking}
use Rattle.book_options.specs.declared.Walk.{Walk}
use Rattle.book_options.proofs.Walks.{stack_room, kept_room, turn_seen, turn_kept, turn_first, turn_one, turn_two}
use Rattle.book_options.proofs.turn.Goals as goal

-- where the popped link stands, as the book's rows `a` count the links of b
popped : {a b : List ℕ} {n : ℕ} (m : List ℕ) (top : ℕ) → n ≡ links a → a ≡ b → get_or m (n + top) 0 ≡ get_or m (links b + top) 0
popped m top e d = rw (e, d)

-- behind the kept origins, and the stack's cell above
module _ {b m : List ℕ} {w : Walk} (v : Walking b m w) (h : 0 < w.top) (f : length m ≡ search_room b) (l : ℕ)
    (e : l ≡ get_or m (links b + (w.top - 1)) 0) (g : get_or m l 0 % 2 ≡ 1 → ⊥) where
  end_inside : (get_or m l 0 ≡ 0 → ⊥) → 2 * links b + destinations b + w.kept < length m
  end_inside z = omega (arith, kept_room v h l e g z)

  above_inside : links b + (w.top - 1) + 1 < length m
  above_inside = omega (arith, stack_room v h l e g)

pub returns-then-mark-eq1 : goal.returns-then-mark-eq1
returns-then-mark-eq1 c =
    let q = c.requires in
    turn_seen q.walking q.top_nonzero _ (popped _ _ c.links-links.ensures c.book-rows.ensures.is) c.if-mark-eq1.true

pub bounds-marks-end : goal.bounds-marks-end
bounds-marks-end c =
    let q = c.requires in
    let r = c.book-rows.ensures in
    let e = popped c.args.marks.now (c.args.w.top - 1) c.links-links.ensures r.is in
    omega (
      arith,
      end_inside q.walking q.top_nonzero q.marks_len _ e c.if-mark-eq1.false c.if-mark-ne0.true,
      ap links r.is,
      ap destinations r.is,
      length-set {A = ℕ},
    )

pub returns-then-mark-ne0 : goal.returns-then-mark-ne0
returns-then-mark-ne0 c =
    let q = c.requires in
    let r = c.book-rows.ensures in
    let e = popped c.args.marks.now (c.args.w.top - 1) c.links-links.ensures r.is in
    let at : 2 * c.links-links.result + c.destinations.result + c.args.w.kept
    ≡ 2 * links c.args.book.now + destinations c.args.book.now + c.args.w.kept =
    omega (arith, ap links r.is, ap destinations r.is) in
    turn_kept q.walking q.top_nonzero _ e c.if-mark-eq1.false _ refl (omega arith) c.if-mark-ne0.true _ _ at
    (omega (arith, at, end_inside q.walking q.top_nonzero q.marks_len _ e c.if-mark-eq1.false c.if-mark-ne0.true)) refl

pub returns-then-link-eq0 : goal.returns-then-link-eq0
returns-then-link-eq0 c =
    let q = c.requires in
    let e = popped c.args.marks.now (c.args.w.top - 1) c.links-links.ensures c.book-rows.ensures.is in
    turn_first q.walking q.top_nonzero _ e c.if-mark-eq1.false _ refl (omega arith) c.if-mark-ne0.false
    (sym (link_prev_lem _ _ c.link_at-link.ensures) ∙ c.if-link-eq0.true)

pub returns-then-link-eq0-2 : goal.returns-then-link-eq0-2
returns-then-link-eq0-2 c =
    let q = c.requires in
    let r = c.book-rows.ensures in
    let e = popped c.args.marks.now (c.args.w.top - 1) c.links-links.ensures r.is in
    let at : c.links-links.result + (c.args.w.top - 1) ≡ links c.args.book.now + (c.args.w.top - 1) = omega (arith, ap links r.is) in
    turn_one q.walking q.top_nonzero _ e c.if-mark-eq1.false _ refl (omega arith) c.if-mark-ne0.false
    _ (link_prev_lem _ _ c.link_at-link.ensures) c.if-link-eq0.false r.valid.indices _ at (omega (arith, at))
    (sym (link_prev_alt_lem _ _ c.link_at-link.ensures) ∙ c.if-link-eq0-2.true)

pub bounds-marks-at-3 : goal.bounds-marks-at-3
bounds-marks-at-3 c =
    let q = c.requires in
    let r = c.book-rows.ensures in
    let e = popped c.args.marks.now (c.args.w.top - 1) c.links-links.ensures r.is in
    omega (arith, above_inside q.walking q.top_nonzero q.marks_len _ e c.if-mark-eq1.false, ap links r.is, length-set {A = ℕ})

pub returns : goal.returns
returns c =
    let q = c.requires in
    let r = c.book-rows.ensures in
    let e = popped c.args.marks.now (c.args.w.top - 1) c.links-links.ensures r.is in
    let at : c.links-links.result + (c.args.w.top - 1) ≡ links c.args.book.now + (c.args.w.top - 1) = omega (arith, ap links r.is) in
    turn_two q.walking q.top_nonzero _ e c.if-mark-eq1.false _ refl (omega arith) c.if-mark-ne0.false
    _ (link_prev_lem _ _ c.link_at-link.ensures) c.if-link-eq0.false r.valid.indices _ at (omega (arith, at))
    _ (link_prev_alt_lem _ _ c.link_at-link.ensures) c.if-link-eq0-2.false
    (omega (arith, at, above_inside q.walking q.top_nonzero q.marks_len _ e c.if-mark-eq1.false))
