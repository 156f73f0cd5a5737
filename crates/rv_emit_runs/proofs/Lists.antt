-- Members of lists of which something holds throughout.
pub use Rattle.base_laws.proofs.Lists.{all_at, there_is as get_some}
pub use Rattle.graph_core.proofs.Among.{get_among, one_of_all as all_among}
