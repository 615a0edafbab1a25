use Rattle.order.proofs.Front.{chain_front_iff}
use Rattle.order.proofs.chains.later_events_add_no_chain.Goals as goal

pub returns : goal.returns
returns c = λ L M r e f i j. chain_front_iff L M r j
