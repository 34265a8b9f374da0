mod ChainFacts
mod NumberFacts
