mod FetchLemmas
mod ReadyLemmas
