use Rattle.std.proofs.Common.{◌<◌, ◌++◌, ◌∷◌, ℕ, List, [], refl, sym, ◌∙◌, ap, subst, append_assoc}
use Rattle.keep_loop.specs.Seen.Happened.{Came}
use Rattle.keep_loop.specs.Stands.{Stands}
use Rattle.keep_loop.proofs.Places.{here_of_hears}
use Rattle.keep_loop.proofs.Stood.{stands_deaf, stands_first}
use Rattle.keep_loop.proofs.keep.Keep.heard.Goals as goal

pub loop-front-init : goal.loop-front-init
loop-front-init g c = record {
  done = [];
  some = c.requires.some;
  base = refl;
  split = refl;
  stands = λ first limits seen s. stands_first g.O.Served.gives first limits seen c.args.self.now c.args.who s;
}

pub returns-then-not-hears : goal.returns-then-not-hears
returns-then-not-hears g c = record {
  stands = λ first limits seen s.
      let now = c.loop-front.invariant in
      subst (λ (l : List ℕ). Stands g.O.Served.gives first limits (Came c.args.who l ∷ seen) c.loop-front.self) (sym now.split)
      (stands_deaf g.O.Served.gives first limits seen c.loop-front.self c.args.who now.done c.loop-front.rest.now
      (subst (λ b. c.args.who < b) (sym now.base) (s.heeds.below c.args.who (here_of_hears c.args.self.now.post.places.items c.args.who c.requires.hears)))
      (s.heeds.unended c.args.who c.requires.hears) (sym c.hears.ensures ∙ c.if-not-hears.true) (now.stands first limits seen s));
}

pub loop-front-preserved : goal.loop-front-preserved
loop-front-preserved g c =
    let now = c.loop-front.invariant in
    let front : List ℕ = c.in-Some.front.now in
    record {
      done = now.done ++ (front ++ 10 ∷ []);
      some = subst (λ n. 0 < n) (sym c.in_ok-line.ensures.count) now.some;
      base = c.in_ok-line.ensures.base ∙ now.base;
      split = now.split ∙ ap (λ (l : List ℕ). now.done ++ l) (c.in-Some.ensures.1 ∙ sym (append_assoc front (10 ∷ []) c.in-Some.back.now)) ∙ sym (append_assoc now.done (front ++ 10 ∷ []) c.in-Some.back.now);
      stands = λ first limits seen s. c.in_ok-line.ensures.stands first limits seen now.done (s.heeds.unended c.args.who c.requires.hears) (now.stands first limits seen s);
    }

pub returns-then-not-hears-2 : goal.returns-then-not-hears-2
returns-then-not-hears-2 g c = record {
  stands = λ first limits seen s.
      let now = c.loop-front.invariant in
      subst (λ (l : List ℕ). Stands g.O.Served.gives first limits (Came c.args.who l ∷ seen) c.loop-front.self) (sym now.split)
      (stands_deaf g.O.Served.gives first limits seen c.loop-front.self c.args.who now.done c.loop-front.rest.now
      (subst (λ b. c.args.who < b) (sym now.base) (s.heeds.below c.args.who (here_of_hears c.args.self.now.post.places.items c.args.who c.requires.hears)))
      (s.heeds.unended c.args.who c.requires.hears) (sym c.hears-2.ensures ∙ c.if-not-hears-2.true) (now.stands first limits seen s));
}
