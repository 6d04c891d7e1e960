mod Named
mod LongName
