use Rattle.std.proofs.Common.{◌≡◌, ◌<◌, true, false, Some, None, length, set, get_or, refl, ap, subst, sym, ◌∙◌, arith}
use Rattle.std.specs.List.{position}
use Rattle.std.proofs.lemmas.Bool.{eq-eqb, ne_eqb}
use Rattle.slab.specs.Slab.{Slab, ContainsKey, with_value}
use Rattle.cip_manager.specs.declared.connection.Connection.{Connection}
use Rattle.cip_manager.specs.Connection.{is_named}
use Rattle.cip_manager.specs.Items.{turn_of_connection, turn_until, answer_of}
use Rattle.cip_manager.specs.Soundness.{IsSound}
use Rattle.cip_manager.specs.Table.{listed, AreOpenUntil}
use Rattle.cip_manager.proofs.DeadlineLemmas.{AreOpenUntil-received}
use Rattle.cip_manager.proofs.FindLemmas.{found-listed, found-within, named-none, found-named}
use Rattle.cip_manager.proofs.Places.{stays, receives_at}
use Rattle.cip_manager.proofs.SlotLemmas.{has-key, listed-at, Shows-received, slab_len-with_value, length-listed}
use Rattle.cip_manager.proofs.TableLemmas.{silent}
use Rattle.cip_manager.proofs.table.Table.receive.Goals as goal

-- no connection has the ID
pub returns-in_default : goal.returns-in_default
returns-in_default g c =
    let cs = listed c.self.inside.connections c.self.inside.index in
    let none = found-listed c.self.inside.connections c.self.inside.index c.args.id c.position_of.result c.self.invariant.named c.position_of.ensures.found ∙ c.in_default.is in
    let named : position (is_named c.args.session c.args.id) c.args.self.now.connections ≡ None =
    ap (λ t. position (is_named c.args.session c.args.id) t.connections) (sym c.self.view_is) ∙ named-none c.args.session c.args.id cs none in
    let stay = stays g.R.Router.after g.R.Router.answer c.args.self.now.connections c.args.now c.args.session c.args.id c.args.item.now c.args.router.now named in (
      (
        refl,
        λ m. tt,
        (
          λ j. record { places = ap (λ t. t.places) c.self.view_is j; connections = (ap (λ t. t.connections) c.self.view_is ∙ sym (ap (λ turn. turn.connections) stay)) j },
          c.self.view_is,
        ),
      ),
      record {
        state = tt;
        silent = refl;
        answer = sym (ap (λ turn. turn.reply) stay);
        router = sym (ap (λ turn. turn.router) stay);
        fits = tt;
      },
    )

pub at-connection-requires : goal.at-connection-requires
at-connection-requires g c =
    subst (ContainsKey c.self.inside.connections) (sym c.key-key.ensures.key)
    (has-key c.self.inside.connections c.self.inside.index c.in-Some.position c.self.invariant.named
    (found-within c.self.inside.index c.args.id c.in-Some.position (sym c.position_of.ensures.found ∙ c.in-Some.is)))

-- another session opened it
pub returns-then-connection-session : goal.returns-then-connection-session
returns-then-connection-session g c =
    let named : position (is_named c.args.session c.args.id) c.args.self.now.connections ≡ None =
    ap (λ t. position (is_named c.args.session c.args.id) t.connections) (sym c.self.view_is)
    ∙ found-named c.self.inside.connections c.self.inside.index c.args.session c.args.id c.in-Some.position c.key-key.result c.at-connection.result.now
    c.self.invariant.named c.key-key.ensures.rising (sym c.position_of.ensures.found ∙ c.in-Some.is) c.key-key.ensures.key c.at-connection.ensures
    false (ne_eqb c.at-connection.result.now.session c.args.session c.if-connection-session.true) in
    let stay = stays g.R.Router.after g.R.Router.answer c.args.self.now.connections c.args.now c.args.session c.args.id c.args.item.now c.args.router.now named in (
      (
        refl,
        λ m. tt,
        (
          λ j. record { places = ap (λ t. t.places) c.self.view_is j; connections = (ap (λ t. t.connections) c.self.view_is ∙ sym (ap (λ turn. turn.connections) stay)) j },
          c.self.view_is,
        ),
      ),
      record {
        state = tt;
        silent = refl;
        answer = sym (ap (λ turn. turn.reply) stay);
        router = sym (ap (λ turn. turn.router) stay);
        fits = tt;
      },
    )

-- the connection keeps its position
pub invariant_of-self-2 : goal.invariant_of-self-2
invariant_of-self-2 g c =
    let slab = c.self.inside.connections in
    let entries = c.self.inside.index in
    let i = c.in-Some.position in
    let old = c.at-connection.result.now in
    let turn = turn_of_connection g.R.Router.after g.R.Router.answer old c.args.now c.args.item.now c.args.router.now in
    let kept = c.serve.follows.holds-at-none old c.at-connection.ensures
    ∙ ap (λ d. with_value slab c.key-key.result (turn_until g.R.Router.after g.R.Router.answer old d c.args.item.now c.args.router.now).connection) c.deadline_from-deadline.ensures in
    let inside : i < length entries = found-within entries c.args.id i (sym c.position_of.ensures.found ∙ c.in-Some.is) in
    let shows = Shows-received slab entries i c.key-key.result old turn.connection inside c.key-key.ensures.key c.key-key.ensures.rising
    c.self.invariant.named c.at-connection.ensures refl in
    let has = subst (ContainsKey slab) (sym c.key-key.ensures.key) (has-key slab entries i c.self.invariant.named inside) in
    let here = listed-at slab entries i c.key-key.result old old c.self.invariant.named inside c.key-key.ensures.key c.at-connection.ensures in
    let at : i < length (listed slab entries) = omega (arith, inside, length-listed slab entries c.self.invariant.named) in
    subst (λ (left : Slab Connection). IsSound c.self.inside.places c.min-self-inside.result entries left) (sym kept)
    (record {
      from = c.self.invariant.from;
      to = c.self.invariant.to;
      named = shows.named;
      others = slab_len-with_value slab c.key-key.result turn.connection has ∙ c.self.invariant.others;
      taken = c.self.invariant.taken;
      room = c.self.invariant.room;
      until =
          subst (AreOpenUntil c.min-self-inside.result) (sym shows.connections)
          (AreOpenUntil-received c.min-self-inside.result c.self.inside.earliest c.args.now (listed slab entries) i old turn.received turn.connection.target at here
          (omega (arith, c.min-self-inside.ensures)) (omega (arith, c.min-self-inside.ensures, c.deadline_from-deadline.ensures)) c.self.invariant.until);
    })

pub returns : goal.returns
returns g c =
    let slab = c.self.inside.connections in
    let entries = c.self.inside.index in
    let cs = c.args.self.now.connections in
    let i = c.in-Some.position in
    let old = c.at-connection.result.now in
    let turn = turn_of_connection g.R.Router.after g.R.Router.answer old c.args.now c.args.item.now c.args.router.now in
    let kept = c.serve.follows.holds-at-none old c.at-connection.ensures
    ∙ ap (λ d. with_value slab c.key-key.result (turn_until g.R.Router.after g.R.Router.answer old d c.args.item.now c.args.router.now).connection) c.deadline_from-deadline.ensures in
    let found = sym c.position_of.ensures.found ∙ c.in-Some.is in
    let before : listed slab entries ≡ cs = ap (λ t. t.connections) c.self.view_is in
    let inside : i < length entries = found-within entries c.args.id i found in
    let e : position (is_named c.args.session c.args.id) cs ≡ Some i =
    ap (position (is_named c.args.session c.args.id)) (sym before)
    ∙ found-named slab entries c.args.session c.args.id i c.key-key.result old c.self.invariant.named c.key-key.ensures.rising found c.key-key.ensures.key c.at-connection.ensures
    true (eq-eqb old.session c.args.session c.if-connection-session.false) in
    let shows = Shows-received slab entries i c.key-key.result old turn.connection inside c.key-key.ensures.key c.key-key.ensures.rising
    c.self.invariant.named c.at-connection.ensures refl in
    let value : get_or cs i old ≡ old = ap (λ xs. get_or xs i old) (sym before) ∙ listed-at slab entries i c.key-key.result old old c.self.invariant.named inside c.key-key.ensures.key c.at-connection.ensures in
    let whole = receives_at g.R.Router.after g.R.Router.answer cs c.args.now c.args.session c.args.id c.args.item.now c.args.router.now i old e value in
    let left = ap (λ (last : Slab Connection). listed last entries) kept
    ∙ (shows.connections ∙ (ap (λ xs. set xs i turn.connection) before ∙ sym (ap (λ t. t.connections) whole))) in
    let told = c.serve.ensures.answer old c.at-connection.ensures ∙ ap (λ d. answer_of (turn_until g.R.Router.after g.R.Router.answer old d c.args.item.now c.args.router.now)) c.deadline_from-deadline.ensures ∙ sym (ap (λ t. t.reply) whole) in
    let moved = c.serve.ensures.router old c.at-connection.ensures ∙ ap (λ d. (turn_until g.R.Router.after g.R.Router.answer old d c.args.item.now c.args.router.now).router) c.deadline_from-deadline.ensures ∙ sym (ap (λ t. t.router) whole) in (
      (
        refl,
        λ m. tt,
        (
          λ j. record { places = ap (λ t. t.places) c.self.view_is j; connections = left j },
          silent g.R.Router.after g.R.Router.answer _ cs c.args.now c.args.session c.args.id c.args.item.now c.args.router.now c.serve.result told
              (λ same still. λ j. record { places = ap (λ t. t.places) c.self.view_is j; connections = (left ∙ same) j }),
        ),
      ),
      record {
        state = tt;
        silent = silent g.R.Router.after g.R.Router.answer _ cs c.args.now c.args.session c.args.id c.args.item.now c.args.router.now c.serve.result told
            (λ same still. moved ∙ still);
        answer = told;
        router = moved;
        fits = c.serve.ensures.fits;
      },
    )
