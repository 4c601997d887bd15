-- Rows that are split and joined, and the rows of the threads.
use Rattle.std.proofs.Common.{◌≡◌, ◌⊎◌, ℕ, List, [], ◌∷◌, ◌++◌, sym, refl, subst, inl, inr, ⊎_elim, length, arith}
use Rattle.turn_worker.specs.Workers.{WorkerView}
use Rattle.lifeguard_crew.specs.declared.slot.Slot.{Slot}
use Rattle.lifeguard_crew.specs.declared.slot.Slot.TheVariants.{Idle, Works, Ended}
use Rattle.lifeguard_crew.specs.inner.Slots.{slot_at, joined, AreKept, IsManned, IsSplit}
use Rattle.lifeguard_crew.specs.inner.Rows.{Each, Pass, SomeOf}

module _ {X : Type 0} (F : X → Type 0) where
  pub each_snoc : (xs : List X) (x : X) → Each F xs → F x → Each F (xs ++ x ∷ [])
  each_snoc [] x e f = (f, tt)
  each_snoc (y ∷ ys) x e f = (e.0, each_snoc ys x e.1 f)

  pub each_init : (xs : List X) (x : X) → Each F (xs ++ x ∷ []) → Each F xs × F x
  each_init [] x e = (tt, e.0)
  each_init (y ∷ ys) x e = let r = each_init ys x e.1 in ((e.0, r.0), r.1)

  pub some_more : (xs : List X) (x : X) → SomeOf F xs → SomeOf F (xs ++ x ∷ [])
  some_more [] x s = absurd s
  some_more (y ∷ ys) x s = ⊎_elim (λ (f : F y). inl f) (λ (r : SomeOf F ys). inr (some_more ys x r)) s

  pub some_last : (xs : List X) (x : X) → F x → SomeOf F (xs ++ x ∷ [])
  some_last [] x f = inl f
  some_last (y ∷ ys) x f = inr (some_last ys x f)

  pub some_init : (xs : List X) (x : X) → SomeOf F (xs ++ x ∷ []) → SomeOf F xs ⊎ F x
  some_init [] x s = ⊎_elim (λ (f : F x). inr f) (λ (no : ⊥). absurd no) s
  some_init (y ∷ ys) x s = ⊎_elim (λ (f : F y). inl (inl f)) (λ (r : SomeOf F (ys ++ x ∷ [])). ⊎_elim (λ (a : SomeOf F ys). inl (inr a)) (λ (f : F x). inr f) (some_init ys x r)) s

  pub some_none : (xs : List X) → length xs ≡ 0 → SomeOf F xs → ⊥
  some_none [] e s = s
  some_none (x ∷ xs) e s = absurd (omega arith)

module _ {W : Type 0} (A : Slot W → Type 0) where
  split_of : A Idle → (old own theirs : Slot W) → IsSplit old own theirs → A old → A own × A theirs
  split_of idle old own theirs s p = ⊎_elim
      (λ (x : (own ≡ old) × (theirs ≡ Idle)). (subst A (sym x.0) p, subst A (sym x.1) idle))
      (λ (x : (own ≡ Idle) × (theirs ≡ old)). (subst A (sym x.0) idle, subst A (sym x.1) p)) s

  joined_of : (own theirs : Slot W) → A own → A theirs → A (joined own theirs)
  joined_of own Idle p q = p
  joined_of own (Works w n) p q = q
  joined_of own (Ended r s) p q = q

module _ {W : Type 0} (May : Slot W → Type 0) (Fit : WorkerView → Slot W → Type 0) where
  abbrev Row : Type 0
  Row = List (Slot W)

  abbrev AllMay : Row → Type 0
  AllMay row = (h : ℕ) → May (slot_at row h)

  abbrev FitAt : ℕ → WorkerView → Row → Type 0
  FitAt h v row = Fit v (slot_at row h)

  abbrev MannedAt : ℕ → Row → Type 0
  MannedAt h row = IsManned (slot_at row h)

  abbrev Passing : List Row → List Row → Type 0
  Passing = Pass May Fit

  pub pass_self : (rows : List Row) → Passing rows rows
  pass_self rows = record { may = λ e. e; fits = λ h v e. e; manned = λ h s. s }

  pub pass_then : (us vs ws : List Row) → Passing us vs → Passing vs ws → Passing us ws
  pass_then us vs ws p q = record {
    may = λ e. q.may (p.may e);
    fits = λ h v e. q.fits h v (p.fits h v e);
    manned = λ h s. q.manned h (p.manned h s);
  }

  -- a row that is kept
  pub pass_kept : (old new : Row) (rows : List Row) → AreKept May Fit old new → Passing (old ∷ rows) (new ∷ rows)
  pass_kept old new rows kept = record {
    may = λ e. ((λ h. (kept h).0 (e.0 h)), e.1);
    fits = λ h v e. ((kept h).1 v e.0, e.1);
    manned = λ h s. ⊎_elim (λ (a : MannedAt h old). inl ((kept h).2 a)) (λ (b : SomeOf (MannedAt h) rows). inr b) s;
  }

  split_manned : (old own theirs : Slot W) → IsSplit old own theirs → IsManned old → IsManned own ⊎ IsManned theirs
  split_manned old own theirs s a = ⊎_elim
      (λ (x : (own ≡ old) × (theirs ≡ Idle)). inl (subst (λ (z : Slot W). IsManned z) (sym x.0) a))
      (λ (x : (own ≡ Idle) × (theirs ≡ old)). inr (subst (λ (z : Slot W). IsManned z) (sym x.1) a)) s

  -- a row that is split in two
  pub pass_split : May Idle → ((v : WorkerView) → Fit v Idle) → (old own theirs : Row) (rows : List Row) → ((k : ℕ) → IsSplit (slot_at old k) (slot_at own k) (slot_at theirs k))
      → Passing (old ∷ rows) (theirs ∷ own ∷ rows)
  pass_split mi fi old own theirs rows split = record {
    may = λ e. (
      (λ h. (split_of May mi (slot_at old h) (slot_at own h) (slot_at theirs h) (split h) (e.0 h)).1),
      ((λ h. (split_of May mi (slot_at old h) (slot_at own h) (slot_at theirs h) (split h) (e.0 h)).0), e.1),
    );
    fits = λ h v e.
        let x = split_of (Fit v) (fi v) (slot_at old h) (slot_at own h) (slot_at theirs h) (split h) e.0 in
        (x.1, (x.0, e.1));
    manned = λ h s. ⊎_elim
        (λ (a : MannedAt h old). ⊎_elim (λ (x : MannedAt h own). inr (inl x)) (λ (y : MannedAt h theirs). inl y)
        (split_manned (slot_at old h) (slot_at own h) (slot_at theirs h) (split h) a))
        (λ (b : SomeOf (MannedAt h) rows). inr (inr b)) s;
  }

  joined_own : (own theirs : Slot W) → IsManned own → IsManned (joined own theirs)
  joined_own own Idle a = a
  joined_own own (Works w n) a = tt
  joined_own own (Ended r s) a = tt

  joined_theirs : (own theirs : Slot W) → IsManned theirs → IsManned (joined own theirs)
  joined_theirs own Idle a = absurd a
  joined_theirs own (Works w n) a = tt
  joined_theirs own (Ended r s) a = tt

  -- two rows that are joined
  pub pass_joined : (own theirs new : Row) (rows : List Row) → ((k : ℕ) → slot_at new k ≡ joined (slot_at own k) (slot_at theirs k))
      → Passing (theirs ∷ own ∷ rows) (new ∷ rows)
  pass_joined own theirs new rows is = record {
    may = λ e. ((λ h. subst May (sym (is h)) (joined_of May (slot_at own h) (slot_at theirs h) (e.1.0 h) (e.0 h))), e.1.1);
    fits = λ h v e. (
      subst (Fit v) (sym (is h)) (joined_of (Fit v) (slot_at own h) (slot_at theirs h) e.1.0 e.0),
      e.1.1,
    );
    manned = λ h s. ⊎_elim
        (λ (a : MannedAt h theirs). inl (subst (λ (z : Slot W). IsManned z) (sym (is h)) (joined_theirs (slot_at own h) (slot_at theirs h) a)))
        (λ (b : SomeOf (MannedAt h) (own ∷ rows)). ⊎_elim
        (λ (c : MannedAt h own). inl (subst (λ (z : Slot W). IsManned z) (sym (is h)) (joined_own (slot_at own h) (slot_at theirs h) c)))
        (λ (d : SomeOf (MannedAt h) rows). inr d) b) s;
  }

  -- a row goes to the end, and from the end to the start
  pub pass_last : (row own : Row) (rows : List Row) → Passing (row ∷ own ∷ rows) (own ∷ (rows ++ row ∷ []))
  pass_last row own rows = record {
    may = λ e. (e.1.0, each_snoc AllMay rows row e.1.1 e.0);
    fits = λ h v e. (e.1.0, each_snoc (FitAt h v) rows row e.1.1 e.0);
    manned = λ h s. ⊎_elim
        (λ (a : MannedAt h row). inr (some_last (MannedAt h) rows row a))
        (λ (b : SomeOf (MannedAt h) (own ∷ rows)). ⊎_elim (λ (c : MannedAt h own). inl c)
        (λ (d : SomeOf (MannedAt h) rows). inr (some_more (MannedAt h) rows row d)) b) s;
  }

  pub pass_first : (own row : Row) (rows : List Row) → Passing (own ∷ (rows ++ row ∷ [])) (row ∷ own ∷ rows)
  pass_first own row rows = record {
    may = λ e. let x = each_init AllMay rows row e.1 in (x.1, (e.0, x.0));
    fits = λ h v e. let x = each_init (FitAt h v) rows row e.1 in (x.1, (e.0, x.0));
    manned = λ h s. ⊎_elim
        (λ (a : MannedAt h own). inr (inl a))
        (λ (b : SomeOf (MannedAt h) (rows ++ row ∷ [])). ⊎_elim (λ (c : SomeOf (MannedAt h) rows). inr (inr c)) (λ (d : MannedAt h row). inl d)
        (some_init (MannedAt h) rows row b)) s;
  }

pub nil_of : {X : Type 0} (xs : List X) → length xs ≡ 0 → xs ≡ []
nil_of [] e = refl
nil_of (x ∷ xs) e = absurd (omega arith)
